pub mod BecomeLemmas
mod EndLemmas
mod FoldLemmas
pub mod LeftOutLemmas
mod MissingLemmas
pub mod RefusedLemmas
pub mod ResultLemmas
pub mod RuleLemmas
pub mod StepLemmas
pub mod UidLemmas
pub mod WholeCardLemmas
mod ValueLemmas
