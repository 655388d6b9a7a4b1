pub mod ReaderState
pub mod LineEnds
pub mod RowCauses
pub mod WriterState
