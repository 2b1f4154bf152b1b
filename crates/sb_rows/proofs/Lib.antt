pub mod Places
pub mod Numbering
pub mod Lookups
pub mod Shown
