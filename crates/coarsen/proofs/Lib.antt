-- `Accepted` has that no pass after the first can refuse, `Rule` the refusals and what is left at the end.
pub mod Accepted
pub mod Rule
