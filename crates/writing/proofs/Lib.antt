pub mod Writes
pub mod Parts
pub mod Coded
pub mod Lines
