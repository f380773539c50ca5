pub mod Search
pub mod Known
pub mod Fields
pub mod Kept
