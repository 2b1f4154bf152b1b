pub mod Fields
pub mod Values
pub mod Gives
pub mod Decodes
pub mod Lengths
