pub mod Holds
