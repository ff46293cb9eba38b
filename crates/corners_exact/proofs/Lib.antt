-- `Exact` has the theorem about answers, `Refusals` the one about refusals.
pub mod Exact
pub mod Refusals
