pub mod FrameLaws
pub mod Sized
