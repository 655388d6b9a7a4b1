mod CarryLemmas
mod KeepLemmas
mod ResultLemmas
mod RowLemmas
mod TextLemmas
