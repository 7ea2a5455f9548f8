pub mod ListCalls
pub mod ObjectRows
pub mod inner
