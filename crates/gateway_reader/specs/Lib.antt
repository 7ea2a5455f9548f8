pub mod ReaderWords
