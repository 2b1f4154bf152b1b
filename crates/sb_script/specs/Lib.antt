pub mod Lines
pub mod Commands
pub mod Script
pub mod Reading
pub mod Bounds
