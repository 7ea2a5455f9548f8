pub mod Glancing
pub mod Walking
