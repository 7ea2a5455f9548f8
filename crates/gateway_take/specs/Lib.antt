pub mod TakeWords
