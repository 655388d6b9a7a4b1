pub mod ReadLemmas
pub mod FindLemmas
pub mod StoreFaultLemmas
pub mod ChangeFaultLemmas
