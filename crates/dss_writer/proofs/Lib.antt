pub mod LayingLaws
pub mod Joined
pub mod Unique
