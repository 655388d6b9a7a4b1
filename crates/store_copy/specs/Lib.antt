pub mod BooksWithout
pub mod CopiedRows
pub mod OnConnections
pub mod RowsWithout
