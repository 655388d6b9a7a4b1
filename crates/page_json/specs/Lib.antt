pub mod FaultNumbers
pub mod PageTexts
pub mod PageValues
pub mod PageJson
pub mod FirstFaults
pub mod WrittenPages
pub mod ReportLaws
pub mod internal
