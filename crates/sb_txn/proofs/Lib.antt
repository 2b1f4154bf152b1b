pub mod GivenBack
pub mod Taken
