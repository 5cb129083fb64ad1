pub mod Readings
pub mod TagTexts
pub mod TreeTexts
pub mod CommitTexts
pub mod Places
pub mod LinkCounts
pub mod Silent
pub mod LinkLaws
