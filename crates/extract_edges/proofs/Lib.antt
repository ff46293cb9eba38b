-- `Rows` has the rows of inner edges and their samples, `Counts` the count of the quads.
pub mod Rows
pub mod Counts
