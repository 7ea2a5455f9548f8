pub mod DssLayout
pub mod DdmLayout
