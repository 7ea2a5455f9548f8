pub mod LayLaws
pub mod ListLaws
pub mod Unique
pub mod Cases
pub mod Sizes
pub mod Modest
pub mod Fits
