pub mod Kinds
pub mod Known
pub mod Inside
pub mod Tables
pub mod Here
pub mod Seen
pub mod Of
pub mod Names
