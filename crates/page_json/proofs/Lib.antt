pub mod FaultLemmas
pub mod MemberLemmas
pub mod OnePageLemmas
pub mod OneFaultLemmas
pub mod ReportableLemmas
pub mod WrittenLemmas
pub mod TokenLemmas
pub mod CardTextLemmas
