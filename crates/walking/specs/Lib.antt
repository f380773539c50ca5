pub mod Walks
pub mod Verdicts
