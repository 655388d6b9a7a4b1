pub mod FoldingLoop
pub mod UnescapeLoop
