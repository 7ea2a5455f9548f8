pub mod BuilderWords
