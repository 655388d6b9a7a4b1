pub mod CallLemmas
pub mod StoreCallLemmas
pub mod TurnLemmas
pub mod FileLemmas
pub mod EndingLemmas
pub mod ListingLemmas
mod SiteLemmas
