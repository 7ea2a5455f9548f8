pub mod Lengths
pub mod Markers
pub mod inner
