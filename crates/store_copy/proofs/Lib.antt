pub mod CompareLemmas
pub mod LoopLemmas
pub mod ReadLemmas
pub mod RestLemmas
pub mod WithoutLemmas
pub mod WriteLemmas
