pub mod Worlds
pub mod Starts
pub mod Ready
pub mod Fresh
pub mod Kept
pub mod Fifth
pub mod Waits
