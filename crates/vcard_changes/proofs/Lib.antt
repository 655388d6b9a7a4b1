pub mod ProperLemmas
