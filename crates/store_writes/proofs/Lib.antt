pub mod ChangeLemmas
pub mod NumberLemmas
pub mod TransactionFaults
pub mod CommitLemmas
pub mod OpenFaults
pub mod ReadFaults
pub mod AcceptLemmas
pub mod HeldLemmas
pub mod CallLemmas
pub mod ForgetLemmas
mod ForgottenCounts
pub mod PutLemmas
pub mod PlanLemmas
