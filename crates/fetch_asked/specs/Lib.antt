pub mod RequestTexts
pub mod Requests
pub mod Reads
pub mod Texts
pub mod Intakes
