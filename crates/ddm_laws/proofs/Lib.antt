pub mod BuiltLists
pub mod BuiltOctets
pub mod Complete
pub mod DdmExamples
pub mod FormLaws
pub mod LayoutLaws
pub mod LengthSums
