-- `Maps` has the laws of the maps: their regions, and the search. `Blocks`, `EdgeKinds`, `Sides`, `Walk`: the walk over the
-- corners in the order of their edges counts the edges. `AllEdges`: tests of all edges. `Corners`: the corners of good
-- quads. `Counting`: loops that count.
pub mod Maps
pub mod Corners
pub mod Counting
pub mod AllEdges
pub mod Blocks
pub mod EdgeKinds
pub mod Sides
pub mod Walk
