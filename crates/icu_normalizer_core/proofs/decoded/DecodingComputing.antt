-- One name to unfold where a proof computes the characters of known bytes or units.
use Rattle.std.specs.Char.Utf16.{utf16_chars}
use Rattle.bstr.specs.Utf8.{pieces_from}

-- `unfolding decoding` opens how bytes and units are read
unfoldable pub decoding : Unit {0}
unfolding pieces_from utf16_chars
decoding = tt
