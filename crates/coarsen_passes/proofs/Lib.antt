-- `Fine` has what passes leave of an accepted sheet, `Once` one pass, `Passes` passes one after the other.
pub mod Fine
pub mod Once
pub mod Passes
