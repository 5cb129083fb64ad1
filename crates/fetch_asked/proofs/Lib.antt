pub mod Digits
pub mod Consumed
pub mod Asking
pub mod Intakes
pub mod WantIds
