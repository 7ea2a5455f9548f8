pub mod LineLaws
pub mod Unique
pub mod Cases
