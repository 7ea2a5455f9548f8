pub mod RecordLaws
pub mod Unique
pub mod Cases
