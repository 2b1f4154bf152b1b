pub mod Room
pub mod Following
pub mod Writing
pub mod Ends
pub mod Runs
pub mod Laws
