pub mod SalvageWords
