pub mod Best
pub mod Ways
pub mod Taken
