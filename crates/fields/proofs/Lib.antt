pub mod Depth
pub mod Scan
pub mod Cut
