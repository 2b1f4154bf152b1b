pub mod Plays
mod Orders
mod Delivery
mod Crashes
mod Locks
mod Poisoned
mod Priorities
mod Time
mod Waiting
mod Endings
