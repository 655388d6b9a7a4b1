pub mod SchemaLemmas
pub mod MetaLemmas
pub mod AnswerLemmas
pub mod FaultLemmas
pub mod LeftoverLemmas
