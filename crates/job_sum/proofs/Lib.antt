-- `Counting` has the counts of corners and what they add up to, `Bound` how large a squared sum is.
pub mod Counting
pub mod Bound
