-- `Requests` has the requests of a sheet in order, `Edges` the first request of each edge, `Loops` the turns of the loops, `Sheet` the way from
-- the loops to the finer sheet, `Rule` that to the outcome.
pub mod Requests
pub mod Edges
pub mod Loops
pub mod Sheet
pub mod Rule
