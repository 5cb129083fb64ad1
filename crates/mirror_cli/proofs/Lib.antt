pub mod Answering
pub mod Mirrors
pub mod Reports
