-- `Tight` has the two theorems.
pub mod Tight
