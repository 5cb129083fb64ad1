pub mod FetchFailures
pub mod SharedFailures
pub mod CloneFailures
pub mod Streams
pub mod Heads
