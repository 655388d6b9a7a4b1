pub mod HeadScans
pub mod Progress
