pub mod FramesWords
pub mod inner
