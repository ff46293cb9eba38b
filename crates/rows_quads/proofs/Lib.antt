-- The laws of this crate: `Strips` of what is read for the copied quads and the strips, and written one behind the other.
pub mod Strips
