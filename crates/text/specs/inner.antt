pub mod Puts
pub mod PutsText
