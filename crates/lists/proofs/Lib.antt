-- The laws of this crate, for its own proofs and for those of the crates that link it: `Laws` of `specs/Sort.antt`, `Order` of one sort after
-- another, `Every` of `specs/Every.antt`, `Regions` of `specs/Regions.antt`, `Parts` of a slice whose part
-- was lent, `Placing` of the loops of a counting sort.
pub mod Laws
pub mod Order
pub mod Every
pub mod Parts
pub mod Regions
pub mod Placing
