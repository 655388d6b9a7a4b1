pub mod CreateLemmas
pub mod CreateFaults
pub mod ImportLemmas
mod TombstoneLemmas
pub mod WroteLemmas
pub mod KnownLemmas
pub mod ImportFaults
