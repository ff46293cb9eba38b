-- `Runs` has the laws of passes one after the other, `Choices` those of a choice and of the tests before it,
-- `Differences` those of gains.
pub mod Runs
pub mod Choices
pub mod Differences
