-- `TenRoots` leads from the double loop over 25 places to five rows with ten norms.
pub mod TenRoots
