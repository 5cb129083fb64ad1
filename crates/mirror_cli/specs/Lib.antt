pub mod MirrorWords
pub mod MirrorTokens
pub mod MirrorReports
pub mod MirrorRun
