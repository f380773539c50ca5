pub mod Rest
pub mod Named
