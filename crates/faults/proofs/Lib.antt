pub mod Tests
pub mod Shaped
pub mod Coding
pub mod Lines
