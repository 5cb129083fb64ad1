pub mod Arrived
pub mod Calm
pub mod Unraced
pub mod Fetched
pub mod Keeps
pub mod Races
pub mod Rows
pub mod GivenPasses
