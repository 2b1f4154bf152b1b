pub mod Guards
pub mod Open
pub mod Inside
