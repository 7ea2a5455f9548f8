pub mod MeasureWords
