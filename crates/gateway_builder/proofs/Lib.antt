pub mod BuilderAnswers
pub mod Cases
pub mod Unique
