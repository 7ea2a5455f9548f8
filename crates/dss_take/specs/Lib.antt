pub mod Take
pub mod inner
