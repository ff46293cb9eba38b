-- `Saving` has the bytes of a job, how long they are and how they are put one after the other.
pub mod Saving
