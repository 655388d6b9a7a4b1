pub mod RowListLemmas
pub mod ResultLemmas
pub mod ListQueryLemmas
pub mod QueryFaultLemmas
pub mod NamedCardLemmas
