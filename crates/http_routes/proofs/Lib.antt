pub mod SeekLemmas
pub mod RouterLemmas
pub mod PathLemmas
pub mod OutcomeLemmas
pub mod QueryLemmas
pub mod RequestLemmas
