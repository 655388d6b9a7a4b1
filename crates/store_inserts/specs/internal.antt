pub mod Creating
pub mod Importing
pub mod OnConnections
