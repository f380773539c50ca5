pub mod Outside
pub mod Puts
pub mod Turns
