pub mod ChangeLemmas
pub mod ComparingElementLemmas
pub mod DifferenceLemmas
pub mod LineOrderLemmas
pub mod LocalityLemmas
pub mod NotedElementLemmas
pub mod OneLineLemmas
pub mod ReachingLemmas
