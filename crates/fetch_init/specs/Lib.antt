pub mod Revisions
pub mod NamedRefs
pub mod HeadTargets
pub mod Initial
pub mod HeadUpdates
pub mod Mapped
pub mod RemoteSections
pub mod Refusals
