pub mod Marks
pub mod Lexed
pub mod Pieces
pub mod Writes
pub mod Resolved
pub mod Worked
