-- What accepted tables mean.
pub mod WholeLeadLemmas
pub mod AcceptedSettingLemmas
