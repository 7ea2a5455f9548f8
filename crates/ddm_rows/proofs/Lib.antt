pub mod ObjectFilling
pub mod ObjectLists
pub mod ObjectRowLaws
pub mod ObjectWorks
pub mod Unique
pub mod ListedAs
