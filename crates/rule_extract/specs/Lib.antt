pub mod Grids
pub mod Samples
pub mod Crossings
pub mod Cells
pub mod Chains
pub mod Lattice
pub mod Paths
pub mod Drawing
