pub mod RecordsGiven
pub mod Walked
