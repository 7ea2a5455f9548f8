pub mod Reader
pub mod inner
