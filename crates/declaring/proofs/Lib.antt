pub mod Holding
pub mod Symbols
pub mod Tables
