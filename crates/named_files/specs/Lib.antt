pub mod FileCalls
pub mod Connections
pub mod FileOpenings
pub mod Restarts
pub mod Leftovers
