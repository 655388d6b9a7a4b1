pub mod SameLemmas
pub mod MadeLemmas
pub mod NameLemmas
