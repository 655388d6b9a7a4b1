mod AboveLemmas
mod ExportLemmas
mod CutLemmas
mod FileLemmas
mod LineLemmas
mod MediaLemmas
mod MovedLemmas
mod PartLemmas
mod PieceLemmas
mod ProgressLemmas
mod ReadBackLemmas
pub mod RowLemmas
mod UidLemmas
mod ContactProgressLemmas
mod ContactRowLemmas
