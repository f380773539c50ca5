pub mod Scan
pub mod Clear
pub mod Cut
pub mod Told
pub mod Divided
pub mod Chains
pub mod Worked
