-- What the proofs of several functions use.
pub mod Places
pub mod Answers
pub mod Numbers
pub mod While
pub mod Chains
pub mod Rules
pub mod Texts
pub mod Quotes
pub mod Spaces
pub mod Numbered
