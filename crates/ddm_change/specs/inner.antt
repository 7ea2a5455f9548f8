pub mod Carried
pub mod LaysOn
pub mod Outlay
pub mod Planning
pub mod Searching
