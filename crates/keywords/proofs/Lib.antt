pub mod Parameters
pub mod Coded
