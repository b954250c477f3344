-- what a line asks for, and the reply
pub mod CommandAnswerLemmas
pub mod CommandLemmas
pub mod CommandListingLemmas
