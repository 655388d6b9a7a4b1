pub mod ListeningLemmas
mod ListeningRunLemmas
pub mod AnsweringLemmas
pub mod CallLemmas
pub mod PieceLemmas
pub mod ServingLemmas
pub mod OctetRunLemmas
pub mod OneRunLemmas
pub mod CutRunLemmas
pub mod ConnectionLemmas
pub mod ReaderLemmas
pub mod ServedHubLemmas
pub mod ServedSiteLemmas
mod ServedFrontLemmas
