pub mod Finer
pub mod Smoothed
pub mod Subdivide
