-- `Groups`: two edges of a cell have the same group exactly where a chain of joins leads from one to the other.
pub mod Groups
