pub mod NamedRefs
pub mod Alone
pub mod Opened
pub mod Headed
