-- The laws of this crate: `Sums` of loops that sum over a part of the work slice, `CreaseLoop` of the loop over the creases at a point,
-- `Quads` of the quads of an edge and of a point, `Pairs` of the ends of the edges and their second corners.
pub mod Sums
pub mod CreaseLoop
pub mod Quads
pub mod Pairs
pub mod Joins
pub mod EdgeList
pub mod Moved
pub mod Places
pub mod Turns
pub mod Lists
pub mod Sheets
