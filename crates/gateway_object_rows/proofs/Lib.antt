pub mod FillingLaws
pub mod Unique
pub mod Cases
