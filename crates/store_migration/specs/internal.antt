pub mod FirstRows
pub mod MigrationPlans
pub mod MigrationWrites
pub mod OnConnections
