pub mod GatheredEntries
pub mod LayingEntries
pub mod Unique
pub mod Cases
