-- The laws of this crate. `Tight`: closed by the edges and by three counts of 0, tight by these and the bad links. `Arcs`, `Links`: a good link is a ring.
-- `Lexical`, `Duplicates`, `Ranks`, `Passes`: the sort of the quads by their corners counts the duplicate faces. `Tests`: a test as a number.
pub mod Tight
pub mod Arcs
pub mod Links
pub mod Lexical
pub mod Duplicates
pub mod Ranks
pub mod Passes
pub mod Tests
