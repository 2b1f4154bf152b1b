pub mod Waiting
pub mod Picked
pub mod Inside
pub mod Offered
pub mod Of
pub mod Stored
