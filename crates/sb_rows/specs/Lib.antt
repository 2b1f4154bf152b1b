pub mod Numbers
pub mod Keyed
pub mod ByNumber
pub mod RowsAndLocks
pub mod Inside
