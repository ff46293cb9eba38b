-- `Saved` has what a saved file opens to, `Opened` what a file that opens is; `Exact` has the theorems.
pub mod Saved
pub mod Opened
pub mod Exact
