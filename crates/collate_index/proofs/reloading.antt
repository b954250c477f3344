-- records in the place of others
pub mod AnewLemmas
pub mod DepthLemmas
pub mod KnownLemmas
pub mod ReloadLemmas
pub mod RekeyedLemmas
pub mod WalkLemmas
