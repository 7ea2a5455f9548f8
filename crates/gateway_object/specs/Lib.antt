pub mod ObjectWords
