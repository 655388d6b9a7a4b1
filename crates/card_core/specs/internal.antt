pub mod Naming
pub mod TextSets
pub mod Walks
