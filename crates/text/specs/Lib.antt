pub mod Bytes
pub mod Characters
pub mod Words
