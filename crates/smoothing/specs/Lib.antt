pub mod Arithmetic
pub mod Smooth
pub mod Rounded
pub mod Fractions
pub mod CatmullClark
