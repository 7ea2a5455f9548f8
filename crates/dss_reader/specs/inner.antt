pub mod MeasuredAll
pub mod TakingAll
