-- The functions of `regularize` meet their contracts, and the laws behind them. Assumes nothing.
pub mod Runs
pub mod Rule
