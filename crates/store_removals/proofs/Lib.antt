pub mod CountLemmas
pub mod RemoveLemmas
pub mod MoveLemmas
pub mod FaultLemmas
