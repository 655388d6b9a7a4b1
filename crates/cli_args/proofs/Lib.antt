pub mod SubcommandLemmas
pub mod ValueLemmas
pub mod MatchLemmas
