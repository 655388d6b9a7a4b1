pub mod RowReaders
