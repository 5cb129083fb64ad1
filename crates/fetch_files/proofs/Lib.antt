pub mod Slashes
pub mod FiniteMaps
pub mod TreeChanges
pub mod Rooted
