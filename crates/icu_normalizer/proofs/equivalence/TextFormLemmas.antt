-- Normal forms of texts in UTF-8: read back, they are the lists that were written.
use Rattle.std.proofs.Common.{◌≡◌, ℕ, true, List, [], ◌∷◌, chars, encode_utf8_all, IsUtf8, sym, ap, ◌∙◌}
use Rattle.std.specs.Prelude.{◌↔◌, All}
use Rattle.std.specs.Char.{IsScalar}
use Rattle.std.proofs.lemmas.Bool.{and_parts}
use Rattle.std.proofs.lemmas.List.Elements.{recursion_from_All, All-from_recursion}
use Rattle.std.proofs.lemmas.Str.{chars-encodes, scalars-chars}
use lib.Utf8.{scalar, scalars}
use Rattle.icu_normalizer_core.specs.Canonical.{Canonical, IsCanonical, IsDecomposing, decomposed, composed}
use Rattle.icu_normalizer_core.proofs.decomposed_lists.DecomposedLemmas.{AreScalar, decomposed_all_scalars}
use Rattle.icu_normalizer_core.proofs.decomposed_lists.ScalarLemmas.{scalars_are}
use Rattle.icu_normalizer.specs.Equivalence.{IsEquivalent}
use Rattle.icu_normalizer.specs.FormCuts.{IsComposed}
use Rattle.icu_normalizer.specs.Splits.{IsDecomposed}
use Rattle.icu_normalizer.specs.TextForms.{decomposed_text, composed_text}
use Rattle.icu_normalizer.proofs.equivalence.EquivalenceLemmas.{one_decomposed}
use Rattle.icu_normalizer.proofs.equivalence.NormalFormLemmas.{composed_scalars, decomposed_twice, composed_decomposed, decomposed_composed, composed_twice, composed_one}

-- ---- scalar values

are_scalars : (cs : List ℕ) → scalars cs ≡ true → AreScalar cs
are_scalars [] h = tt
are_scalars (c ∷ cs) h = let both = and_parts (scalar c) (scalars cs) h in (both.0, are_scalars cs both.1)

-- the characters of a text are scalar values
pub text_scalars : (text : List ℕ) → IsUtf8 text → All IsScalar (chars text)
text_scalars text u = All-from_recursion IsScalar (chars text) (are_scalars (chars text) (scalars-chars text u))

-- scalar values that are written are read back
pub written_chars : (cs : List ℕ) → All IsScalar cs → chars (encode_utf8_all cs) ≡ cs
written_chars cs s = chars-encodes cs (scalars_are cs (recursion_from_All IsScalar cs s))

-- what holds where lists of scalar values are the same holds where their texts are
where_written : {A : Type 0} (cs ds : List ℕ) → All IsScalar cs → All IsScalar ds → A ↔ (cs ≡ ds) → A ↔ (encode_utf8_all cs ≡ encode_utf8_all ds)
where_written cs ds s t lists = (λ h. ap encode_utf8_all (lists.0 h), λ e. lists.1 (sym (written_chars cs s) ∙ ap chars e ∙ written_chars ds t))

-- ---- forms of texts

-- a form of a text that was written goes by the list
pub form_written : (form : List ℕ → List ℕ) (cs ds : List ℕ) → All IsScalar cs → form cs ≡ ds → form (chars (encode_utf8_all cs)) ≡ ds
form_written form cs ds s e = ap form (written_chars cs s) ∙ e

-- a list that is its own form stays so where it is written and read
own_written : (form : List ℕ → List ℕ) (cs : List ℕ) → All IsScalar cs → form cs ≡ cs → form (chars (encode_utf8_all cs)) ≡ chars (encode_utf8_all cs)
own_written form cs s e = form_written form cs cs s e ∙ sym (written_chars cs s)

module _ (canonical : Canonical) (text : List ℕ) (u : IsUtf8 text) where
  read : All IsScalar (chars text)
  read = text_scalars text u

  module _ (d : IsDecomposing canonical) where
    pub decomposed_text_scalars : All IsScalar (decomposed canonical (chars text))
    decomposed_text_scalars = decomposed_all_scalars canonical (chars text) d read

    pub text_decomposed_twice : decomposed_text canonical (decomposed_text canonical text) ≡ decomposed_text canonical text
    text_decomposed_twice = ap encode_utf8_all (form_written (decomposed canonical) _ _ decomposed_text_scalars (decomposed_twice canonical (chars text) d read))

    pub text_decomposed_composed : composed_text canonical (decomposed_text canonical text) ≡ composed_text canonical text
    text_decomposed_composed = ap encode_utf8_all (form_written (composed canonical) _ _ decomposed_text_scalars (decomposed_composed canonical (chars text) d read))

    pub text_is_decomposed : IsDecomposed canonical (chars (decomposed_text canonical text))
    text_is_decomposed = own_written (decomposed canonical) _ decomposed_text_scalars (decomposed_twice canonical (chars text) d read)

  module _ (d : IsCanonical canonical) where
    pub composed_text_scalars : All IsScalar (composed canonical (chars text))
    composed_text_scalars = composed_scalars canonical (chars text) d read

    pub text_composed_twice : composed_text canonical (composed_text canonical text) ≡ composed_text canonical text
    text_composed_twice = ap encode_utf8_all (form_written (composed canonical) _ _ composed_text_scalars (composed_twice canonical (chars text) d read))

    pub text_composed_decomposed : decomposed_text canonical (composed_text canonical text) ≡ decomposed_text canonical text
    text_composed_decomposed = ap encode_utf8_all (form_written (decomposed canonical) _ _ composed_text_scalars (composed_decomposed canonical (chars text) d read))

    pub text_is_composed : IsComposed canonical (chars (composed_text canonical text))
    text_is_composed = own_written (composed canonical) _ composed_text_scalars (composed_twice canonical (chars text) d read)

module _ (canonical : Canonical) (a b : List ℕ) (u : IsUtf8 a) (v : IsUtf8 b) where
  -- equivalent texts are those with one NFD
  pub texts_decomposed_one : IsDecomposing canonical → IsEquivalent canonical (chars a) (chars b) ↔ (decomposed_text canonical a ≡ decomposed_text canonical b)
  texts_decomposed_one d =
      where_written _ _ (decomposed_text_scalars canonical a u d) (decomposed_text_scalars canonical b v d)
      (one_decomposed canonical (chars a) (chars b) d (text_scalars a u) (text_scalars b v))

  -- equivalent texts are those with one NFC
  pub texts_composed_one : IsCanonical canonical → IsEquivalent canonical (chars a) (chars b) ↔ (composed_text canonical a ≡ composed_text canonical b)
  texts_composed_one d =
      where_written _ _ (composed_text_scalars canonical a u d) (composed_text_scalars canonical b v d)
      (composed_one canonical (chars a) (chars b) d (text_scalars a u) (text_scalars b v))
