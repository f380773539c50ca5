pub mod Symbols
pub mod Rows
pub mod Adding
pub mod Lines
pub mod Prototypes
pub mod Counts
