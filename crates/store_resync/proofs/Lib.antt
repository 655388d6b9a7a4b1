mod ListLemmas
mod StageLemmas
mod BooksLemmas
mod PlanLemmas
