pub mod Settled
pub mod Members
pub mod Tables
pub mod Parts
pub mod Loop
pub mod Whole
