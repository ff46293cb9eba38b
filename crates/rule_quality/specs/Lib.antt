pub mod Census
pub mod Cells
pub mod Floats
pub mod Measure
pub mod Quality
