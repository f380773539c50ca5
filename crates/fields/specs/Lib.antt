pub mod Seen
pub mod Cuts
