-- fronts of full lists, and full lists that grow
pub mod FrontLemmas
pub mod AheadLemmas
pub mod GrowingListLemmas
