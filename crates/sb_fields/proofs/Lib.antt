pub mod Numbers
pub mod Texts
pub mod Takings
pub mod Readings
