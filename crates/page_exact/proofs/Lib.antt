-- `Digits` has a count in its columns, `Bounds` the size of the counts, `Exact` the theorem about pages, `Refusals` the one about refusals.
pub mod Digits
pub mod Bounds
pub mod Exact
pub mod Refusals
