pub mod Scripts
pub mod Parameters
pub mod SessionStates
pub mod Spellings
pub mod AdvertisementSpellings
pub mod Advertisable
