-- characters of bytes and units
pub mod DecodedLemmas
pub mod DecodingComputing
mod DecodingRows
pub mod Utf16Lemmas
pub mod ScalarLemmas
pub mod CanonicalTextLemmas
