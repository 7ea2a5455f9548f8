pub mod ListWords
pub mod inner
