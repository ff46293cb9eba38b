-- `Shown` has what an answer shows in its two slices.
pub mod Shown
