pub mod Valences
