-- `Dual` has the four cells of an inner edge, `Turns` the quads and labels in two slices, `Good` that the quads are proper.
pub mod Dual
pub mod Turns
pub mod Good
