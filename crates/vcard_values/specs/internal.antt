pub mod BreakLoop
pub mod RewriteLoop
pub mod UriNames
pub mod MarkLoop
