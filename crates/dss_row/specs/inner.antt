pub mod FrameRows
pub mod RowRecords
