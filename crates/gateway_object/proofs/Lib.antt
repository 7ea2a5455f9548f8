pub mod Unique
pub mod Cases
pub mod SignedLaws
