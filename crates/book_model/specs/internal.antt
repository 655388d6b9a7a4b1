pub mod BookCodes
