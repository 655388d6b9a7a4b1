pub mod RowSteps
pub mod TextParsers
