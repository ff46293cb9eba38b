pub mod Merges
pub mod Coarse
pub mod MergeFits
pub mod Rule
pub mod Invariants
