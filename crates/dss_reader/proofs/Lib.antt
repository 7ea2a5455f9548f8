pub mod FrameEnds
pub mod GatheredFrames
pub mod MeasuredFrames
pub mod TakingFrames
pub mod Unique
pub mod Cases
