pub mod DerivedUid
pub mod Lines
pub mod internal
