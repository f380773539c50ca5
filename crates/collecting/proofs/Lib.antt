pub mod Words
pub mod Places
pub mod Lines
pub mod Fits
pub mod Prototypes
pub mod Bodies
pub mod Distinct
pub mod Accepted
