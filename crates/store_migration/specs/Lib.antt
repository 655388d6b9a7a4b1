pub mod InitialKeeps
pub mod Migration
pub mod OnConnections
pub mod internal
