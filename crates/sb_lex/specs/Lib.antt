pub mod Lex
pub mod Pieces
pub mod Cuts
pub mod Answer
