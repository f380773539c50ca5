pub mod Tokens
pub mod Kinds
pub mod Operands
