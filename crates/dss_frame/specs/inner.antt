pub mod RowStart
