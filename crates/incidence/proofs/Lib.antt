-- `Corners` has the laws of the sorts of corners, `Marks` those of the marks, `Bounds` how large valences are.
pub mod Corners
pub mod Marks
pub mod Bounds
