pub mod Objects
pub mod ReplyValues
pub mod Messages
pub mod Statuses
pub mod Replies
