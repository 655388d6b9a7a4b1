pub mod Removals
pub mod Moves
pub mod OnConnections
