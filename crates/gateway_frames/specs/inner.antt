pub mod LaidRecords
