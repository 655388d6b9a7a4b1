pub mod Carrying
pub mod Contacts
pub mod RowFaults
pub mod RowUids
pub mod internal
