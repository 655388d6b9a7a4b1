mod FieldLemmas
pub mod TextLemmas
