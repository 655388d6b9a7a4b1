pub mod Rows
pub mod Columns
pub mod Causes
pub mod Reading
pub mod Writing
pub mod ReadBack
pub mod Exports
pub mod internal
