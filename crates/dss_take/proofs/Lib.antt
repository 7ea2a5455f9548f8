pub mod PayloadLaws
pub mod TakeAnswers
pub mod TakenChunks
pub mod TakenFrames
pub mod TakingLaws
pub mod Unique
pub mod Cases
