pub mod WriterWords
