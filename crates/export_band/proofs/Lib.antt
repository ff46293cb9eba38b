-- `Told` has the band from what was read of it, `Exports` what an export shows and leaves.
pub mod Told
pub mod Exports
