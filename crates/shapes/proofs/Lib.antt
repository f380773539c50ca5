-- What a shape says.
pub mod Plain
pub mod Kept
pub mod Written
pub mod Parts
pub mod Texts
pub mod Spelt
