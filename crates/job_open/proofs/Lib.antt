-- `Trailers` has what a trailer tells, `Opening` what is opened.
pub mod Trailers
pub mod Opening
