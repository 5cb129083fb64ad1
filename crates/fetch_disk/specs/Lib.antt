pub mod Directory
pub mod Disk
pub mod Errors
pub mod History
pub mod Journal
pub mod Reading
pub mod Records
