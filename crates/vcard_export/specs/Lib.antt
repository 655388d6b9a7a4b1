pub mod Names
pub mod Forms
pub mod Spellings
pub mod OlderValues
pub mod OlderParams
pub mod OlderLines
pub mod OlderCards
pub mod internal
