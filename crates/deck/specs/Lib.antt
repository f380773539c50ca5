pub mod Slots
pub mod Coding
pub mod Coders
pub mod AsRead
pub mod Good
pub mod ByDeck
pub mod Translation
