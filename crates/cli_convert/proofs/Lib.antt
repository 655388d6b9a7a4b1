pub mod DoesLemmas
mod EndLemmas
pub mod FolderLemmas
pub mod HeadLemmas
pub mod StatusLemmas
pub mod TextLemmas
