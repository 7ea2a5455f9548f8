pub mod ChangeWords
