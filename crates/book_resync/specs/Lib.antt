pub mod Resyncing
pub mod ResyncCalls
pub mod ResyncLaws
pub mod Resyncs
