pub mod Carets
pub mod Labels
