-- `Counts` counts the quads and the edges at a point, `Pairs` has the two quads of an edge, `Positions` says where the points of the finer sheet stand;
-- `Paper` is the theorem, `OneLabel` has the sheets on which it speaks of every point, `Cube` is one of them, and `Calls` has it of every call.
pub mod Counts
pub mod Pairs
pub mod Positions
pub mod Paper
pub mod OneLabel
pub mod Cube
pub mod Calls
