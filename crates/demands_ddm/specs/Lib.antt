pub mod Adding
pub mod DdmLayouts
pub mod ReadingBack
pub mod ReadingWords
pub mod TwoLists
