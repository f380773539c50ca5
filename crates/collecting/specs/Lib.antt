pub mod Collected
pub mod Bodies
