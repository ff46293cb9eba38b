-- The functions of `regularize_pass` meet their contracts, and the laws behind them. Assumes nothing.
pub mod Choices
pub mod Pairs
pub mod Sweeps
