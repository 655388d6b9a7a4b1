pub mod BoolLemmas
pub mod TextLemmas
pub mod TextMapLemmas
