-- bytes read and written in parts
pub mod KnownBytesLemmas
pub mod SendingLemmas
pub mod TellingLemmas
pub mod ContentLemmas
pub mod ServedLemmas
