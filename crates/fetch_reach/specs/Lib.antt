pub mod Sets
pub mod Named
pub mod Stored
pub mod Whole
