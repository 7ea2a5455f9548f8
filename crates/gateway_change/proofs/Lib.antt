pub mod Changing
pub mod Unique
pub mod Cases
