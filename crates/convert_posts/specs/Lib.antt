pub mod ConvertRequests
pub mod Parts
pub mod PartValues
pub mod ConvertReplies
pub mod internal
