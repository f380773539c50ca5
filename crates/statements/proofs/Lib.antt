pub mod Symbols
pub mod Parts
