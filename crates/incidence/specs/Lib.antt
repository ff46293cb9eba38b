pub mod Corners
pub mod Marks
pub mod Bounds
