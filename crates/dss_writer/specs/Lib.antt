pub mod Writer
pub mod inner
