pub mod Commits
pub mod Served
pub mod Generated
