-- What a cursor answers, and where it stands then.
pub mod SearchLemmas
pub mod BranchLemmas
pub mod StepLemmas
pub mod UnitAnswerLemmas
pub mod TextAnswerLemmas
pub mod AnswerLemmas
pub mod WholeLemmas
pub mod ValueLemmas
