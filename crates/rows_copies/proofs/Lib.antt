-- The laws of this crate: `Copies` of the centres and the tries of a copy, `Put` of the copies put behind the points.
pub mod Copies
pub mod Put
