pub mod MediaTypes
pub mod Sites
pub mod SiteReplies
pub mod SiteHandlers
