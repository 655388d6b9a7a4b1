pub mod EscapeLemmas
pub mod HeadLemmas
pub mod CharsetLemmas
pub mod RawLineLemmas
pub mod PieceLemmas
pub mod InsideLemmas
pub mod StayLemmas
pub mod SplitLemmas
pub mod UnitLemmas
pub mod WordLemmas
pub mod FillLemmas
mod CutLemmas
mod UnreadLemmas
