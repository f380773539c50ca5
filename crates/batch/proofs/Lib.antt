pub mod Numbers
pub mod Cases
pub mod Inside
pub mod Keeping
pub mod Stays
pub mod Shifted
