pub mod Numbers
pub mod Only
pub mod Outcomes
pub mod Checked
