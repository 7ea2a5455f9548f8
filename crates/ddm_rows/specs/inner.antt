pub mod RowsFilled
pub mod WalkedList
