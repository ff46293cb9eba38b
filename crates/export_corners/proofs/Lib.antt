-- `Shown` has what an answer shows in its slice.
pub mod Shown
