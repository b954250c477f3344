-- The encodings of texts.
use Rattle.std.proofs.Common.{◌≡◌, ℕ, ◌<◌, [], ◌∷◌, encode_utf8_all, refl, ◌∙◌, arith, append-nil}
use Rattle.std.proofs.lemmas.Bool.Decides.{nat_tests}
use Rattle.std.proofs.lemmas.Grind.{flat_map-append}
use Rattle.std.proofs.lemmas.Str.{encode_ascii, encodes-append}
use Rattle.std.specs.Char.Escape.{encode_utf16}
use Rattle.icu_normalizer.specs.Texts.{IsEncoding, encode_utf16_all}

pub utf8_encoding : IsEncoding encode_utf8_all
utf8_encoding = record {
  nothing = refl;
  append = encodes-append;
  plain = λ c low. append-nil _ ∙ encode_ascii c low;
}

one_unit : (c : ℕ) → c < 0x80 → encode_utf16 c ≡ c ∷ []
one_unit c low = grind (arith, nat_tests)

pub utf16_encoding : IsEncoding encode_utf16_all
utf16_encoding = record {
  nothing = refl;
  append = flat_map-append encode_utf16;
  plain = λ c low. append-nil _ ∙ one_unit c low;
}
