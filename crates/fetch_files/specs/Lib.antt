pub mod Paths
pub mod Trees
pub mod TreeCodes
pub mod FileCalls
