pub mod Kinds
pub mod Labels
pub mod Contents
pub mod Names
pub mod NewLines
pub mod NewTypes
pub mod SameLines
