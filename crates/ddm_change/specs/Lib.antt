pub mod Change
pub mod Alone
pub mod Request
pub mod inner
