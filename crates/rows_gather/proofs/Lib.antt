-- The laws of this crate: `Numbers` of the numbering of the copies, `Lists` of the list of the corners at which strips
-- run, `Stages` of the stages that fill the work slice.
pub mod Numbers
pub mod Lists
pub mod Stages
