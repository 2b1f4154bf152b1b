pub mod Firsts
pub mod Looking
pub mod Sorting
pub mod Texts
