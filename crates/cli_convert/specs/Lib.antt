pub mod CardFolders
pub mod CreatedFiles
pub mod Endings
pub mod FileTexts
pub mod MadeFiles
pub mod Names
pub mod Readers
pub mod Sources
