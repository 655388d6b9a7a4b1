pub mod Cells
pub mod Components
