pub mod Spelling
pub mod Taking
pub mod Reading
pub mod Laws
