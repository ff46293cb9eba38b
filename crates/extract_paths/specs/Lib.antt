pub mod Paths
