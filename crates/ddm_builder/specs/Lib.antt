pub mod Built
pub mod Builder
pub mod Headers
pub mod inner
