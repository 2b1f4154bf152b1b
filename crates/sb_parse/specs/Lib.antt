pub mod Gives
pub mod Answers
pub mod Past
pub mod Lexemes
pub mod Places
pub mod Branches
