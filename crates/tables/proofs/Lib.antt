pub mod Grown
pub mod Among
