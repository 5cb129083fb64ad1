pub mod WordLaws
pub mod Cut
