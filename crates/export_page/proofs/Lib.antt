-- `Shown` has what an answer shows.
pub mod Shown
