-- `Shown` has what the exports show, `Idle` what opening into no slices answers.
pub mod Shown
pub mod Idle
