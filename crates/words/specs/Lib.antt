pub mod Trimmed
pub mod Places
