mod BookLemmas
mod BookResyncLemmas
pub mod AllBooksLemmas
mod EntryLemmas
mod SpareCardLemmas
mod LegalCallLemmas
mod ResyncedLemmas
