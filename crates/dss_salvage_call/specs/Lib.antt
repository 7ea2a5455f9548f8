pub mod SalvageCall
pub mod inner
