-- `Shaped` has the laws of the places of points.
pub mod Shaped
