-- how names compare
pub mod NameOrderLemmas
