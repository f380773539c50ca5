pub mod Unmarked
pub mod Pieces
pub mod Starts
pub mod Pairs
pub mod Keyword
