pub mod SalvageEntries
pub mod inner
