pub mod Around
pub mod Tested
pub mod Symbols
pub mod Formed
pub mod Counted
pub mod Bodies
