pub mod Answering
pub mod Jobs
pub mod Inputs
pub mod Outlines
pub mod OneJob
pub mod Told
pub mod Raced
