-- What the proofs of several functions use.
pub mod Read
pub mod Lines
pub mod Pairing
