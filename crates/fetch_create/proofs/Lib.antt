pub mod Appended
pub mod Steps
pub mod Gone
pub mod Alone
pub mod Settings
pub mod Created
pub mod Branched
