pub mod Faces
pub mod Bits
pub mod Tables
