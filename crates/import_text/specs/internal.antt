pub mod EscapeSteps
pub mod Heads
pub mod LineLens
pub mod Units
pub mod Unread
