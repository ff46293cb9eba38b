-- `Cases` has the theorem about the table.
pub mod Cases
