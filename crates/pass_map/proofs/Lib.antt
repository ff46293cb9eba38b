-- `Maps` has the laws of `specs/Conditions.antt`: how the map is made, and what keeps it.
pub mod Maps
