-- Data that say the same of scalar values give one normal form.
use Rattle.std.proofs.Common.{◌≡◌, ℕ, ◌<◌, ◌^◌, List, flat_map, chars, encode_utf8_all, IsUtf8, ap, ◌∙◌}
use Rattle.std.proofs.lemmas.List.Elements.{recursion_from_All}
use Rattle.std.specs.Prelude.{All}
use Rattle.std.specs.Char.{IsScalar}
use Rattle.icu_normalizer_core.specs.Canonical.{Canonical, IsCanonical, marks_in_order, decomposed, recomposed, composed}
use Rattle.icu_normalizer_core.specs.Decoding.{utf8_chars, utf16_chars}
use Rattle.icu_normalizer_core.specs.Forming.{IsForming, IsSaidOver}
use Rattle.icu_normalizer_core.specs.Sameness.{AreSameCanonical, AreSameComposing}
use Rattle.icu_normalizer_core.proofs.building.AcceptedMapsSameLemmas.{AreAlike, recomposed_same}
use Rattle.icu_normalizer_core.proofs.decoded.DecodedLemmas.{utf8_scalars, utf16_scalars}
use Rattle.icu_normalizer_core.proofs.decomposed_lists.DecomposedLemmas.{AreScalar, full_same, order_same}
use Rattle.icu_normalizer.specs.TextForms.{decomposed_text, composed_text}
use Rattle.icu_normalizer.specs.Texts.{encode_utf16_all}
use Rattle.icu_normalizer.proofs.forms.FormLawLemmas.{forming_over}
use Rattle.icu_normalizer.proofs.noted.OwnLemmas.{full_scalar, decomposed_scalar}
use Rattle.icu_normalizer.proofs.equivalence.TextFormLemmas.{text_scalars}

module _ (other said : Canonical) (ok : IsForming said) (xs : List ℕ) (s : AreScalar xs) where
  one_decomposed : AreSameCanonical other said → decomposed other xs ≡ decomposed said xs
  unfolding decomposed
  one_decomposed same =
      ap (marks_in_order other.class) (full_same other said xs same s)
      ∙ order_same other.class said.class (flat_map said.full xs) same.class (full_scalar said ok xs s)

  one_composed : AreSameComposing other said → composed other xs ≡ composed said xs
  unfolding composed
  one_composed same =
      let alike : AreAlike other said = record { class = same.same.class; pair = same.pair; scalars = λ a b z p. (ok.parts a b z p).2 } in
      ap (recomposed other) (one_decomposed same.same) ∙ recomposed_same other said alike (decomposed said xs) (decomposed_scalar said ok xs s)

module _ (canonical said other : Canonical) (xs : List ℕ) (ok : IsCanonical canonical) (over : IsSaidOver canonical said) where
  pub same_decomposed : AreSameCanonical other said → All IsScalar xs → decomposed other xs ≡ decomposed said xs
  same_decomposed same s = one_decomposed other said (forming_over canonical said xs ok over s) xs (recursion_from_All IsScalar xs s) same

  pub same_composed : AreSameComposing other said → All IsScalar xs → composed other xs ≡ composed said xs
  same_composed same s = one_composed other said (forming_over canonical said xs ok over s) xs (recursion_from_All IsScalar xs s) same

-- the same of texts in each encoding
module _ (canonical said other : Canonical) (text : List ℕ) (ok : IsCanonical canonical) (over : IsSaidOver canonical said) where
  pub same_text_decomposed : AreSameCanonical other said → IsUtf8 text → decomposed_text other text ≡ decomposed_text said text
  same_text_decomposed same u = ap encode_utf8_all (same_decomposed canonical said other (chars text) ok over same (text_scalars text u))

  pub same_text_composed : AreSameComposing other said → IsUtf8 text → composed_text other text ≡ composed_text said text
  same_text_composed same u = ap encode_utf8_all (same_composed canonical said other (chars text) ok over same (text_scalars text u))

  pub same_bytes_decomposed : AreSameCanonical other said → encode_utf8_all (decomposed other (utf8_chars text)) ≡ encode_utf8_all (decomposed said (utf8_chars text))
  same_bytes_decomposed same = ap encode_utf8_all (same_decomposed canonical said other (utf8_chars text) ok over same (utf8_scalars text))

  pub same_bytes_composed : AreSameComposing other said → encode_utf8_all (composed other (utf8_chars text)) ≡ encode_utf8_all (composed said (utf8_chars text))
  same_bytes_composed same = ap encode_utf8_all (same_composed canonical said other (utf8_chars text) ok over same (utf8_scalars text))

  pub same_units_decomposed : AreSameCanonical other said → All (λ u. u < 2 ^ 16) text → encode_utf16_all (decomposed other (utf16_chars text)) ≡ encode_utf16_all (decomposed said (utf16_chars text))
  same_units_decomposed same u = ap encode_utf16_all (same_decomposed canonical said other (utf16_chars text) ok over same (utf16_scalars text u))

  pub same_units_composed : AreSameComposing other said → All (λ u. u < 2 ^ 16) text → encode_utf16_all (composed other (utf16_chars text)) ≡ encode_utf16_all (composed said (utf16_chars text))
  same_units_composed same u = ap encode_utf16_all (same_composed canonical said other (utf16_chars text) ok over same (utf16_scalars text u))
