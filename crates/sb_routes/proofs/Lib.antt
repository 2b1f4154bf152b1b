pub mod Ranking
pub mod Lists
pub mod OfLogs
