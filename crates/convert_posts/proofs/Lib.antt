mod FloatLemmas
mod PartLemmas
mod RowLemmas
