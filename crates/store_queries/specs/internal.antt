pub mod RowLists
pub mod QuerySteps
