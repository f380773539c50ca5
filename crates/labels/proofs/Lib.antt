pub mod Turns
pub mod Bodies
pub mod Macros
pub mod Targets
