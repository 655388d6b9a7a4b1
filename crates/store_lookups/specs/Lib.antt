pub mod Faults
pub mod StoreFaults
pub mod ChangeFaults
pub mod RowChecks
pub mod MemberStates
pub mod StoredBooks
pub mod CallResults
pub mod OnConnections
