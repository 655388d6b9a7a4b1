pub mod FaultTexts
pub mod Groups
pub mod internal
