pub mod HostNames
pub mod Subcommands
pub mod ParsedOrders
pub mod WorkedLines
