pub mod SpellingLoop
