pub mod LaidEntries
pub mod Unique
pub mod Cases
pub mod EntryBack
