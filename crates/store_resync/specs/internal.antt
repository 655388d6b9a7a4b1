pub mod Plans
pub mod Stages
pub mod Changes
pub mod OnConnections
