pub mod Measure
pub mod inner
