pub mod PaddingLemmas
pub mod RowReaderLemmas
pub mod OctetLemmas
pub mod StopLemmas
pub mod TurnLemmas
pub mod CommandLemmas
pub mod ReplyLemmas
pub mod FirstPathLemmas
pub mod InputLemmas
pub mod LongTextLemmas
mod CheckLemmas
