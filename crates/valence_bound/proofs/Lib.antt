-- `States` has the theorem about all states of a call, `Crowded` the sheet that reaches the bound.
pub mod States
pub mod Crowded
