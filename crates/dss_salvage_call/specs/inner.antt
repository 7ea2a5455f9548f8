pub mod SalvageGathered
