pub mod Slots
pub mod Vertices
