-- `Admitted` has what the tests of a call leave, `Accepted` that the sheet is accepted.
pub mod Admitted
pub mod Accepted
