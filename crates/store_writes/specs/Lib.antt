pub mod TableChanges
pub mod AcceptedChanges
pub mod OnConnections
pub mod internal
