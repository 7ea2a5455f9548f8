pub mod FullReads
