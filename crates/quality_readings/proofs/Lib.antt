-- `Zips` has the tables of zips, `Cells` the cells of a lent sheet and the loop that measures them.
pub mod Zips
pub mod Cells
