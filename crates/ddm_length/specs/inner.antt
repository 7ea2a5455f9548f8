pub mod Keeping
pub mod Numbered
