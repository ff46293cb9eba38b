-- `Slices` is about sheets in padded slices, `Finer` and `Smooth` are about the sheet of `subdivide`, `Caps` and `Tested` about the answer of `regularize`;
-- `Calls` is the theorem, `Cube` shows a sheet that it may start from, and `Runs` that lists of calls exist.
pub mod Slices
pub mod Finer
pub mod Smooth
pub mod Caps
pub mod Tested
pub mod Calls
pub mod Cube
pub mod Runs
