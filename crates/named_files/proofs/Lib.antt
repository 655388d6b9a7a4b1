pub mod ConnectionLemmas
pub mod RestartLemmas
pub mod SealedLemmas
pub mod NothingLemmas
