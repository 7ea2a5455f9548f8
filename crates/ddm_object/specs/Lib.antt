pub mod Objects
pub mod ObjectCalls
pub mod DataParts
pub mod inner
