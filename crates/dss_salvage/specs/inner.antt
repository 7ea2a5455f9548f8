pub mod SalvageMeasure
pub mod SalvageSteps
