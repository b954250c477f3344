-- settings of compiled tables
pub mod LeadBitLemmas
pub mod SettingReorderingLemmas
pub mod SettingBitLemmas
