pub mod SpellingLemmas
pub mod PrefixLemmas
pub mod CardLemmas
