pub mod Sets
pub mod OwnIds
pub mod Written
pub mod Leaving
