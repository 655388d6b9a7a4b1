pub mod OpenFaults
pub mod StoredSchema
pub mod FirstSchema
pub mod FoundTables
pub mod FileFaults
pub mod OnConnections
pub mod internal
