-- A normal form in the place of bytes or units, and the other laws of collators that stand on laws of lists.
use Rattle.std.proofs.Common.{◌≡◌, ℕ, ◌<◌, ◌^◌, ◌++◌, List, ap, ◌∙◌}
use Rattle.std.specs.Prelude.{◌≢◌, All}
use Rattle.std.specs.Str.{IsUtf8}
use Rattle.std.specs.Char.{IsScalar}
use Rattle.std.specs.declared.cmp.Ordering.TheVariants.{Equal}
use Rattle.icu_normalizer_core.specs.Canonical.{IsCanonical, composed, decomposed}
use Rattle.icu_normalizer_core.specs.Decoding.{utf16_chars, utf8_chars}
use Rattle.icu_normalizer_core.proofs.decoded.DecodedLemmas.{utf16_scalars, utf8_scalars}
use Rattle.icu_normalizer_core.proofs.decomposed_lists.DecomposedLemmas.{decomposed_all_scalars}
use Rattle.icu_normalizer_core.proofs.decoded.CanonicalTextLemmas.{utf16_text, utf8_text}
use Rattle.icu_normalizer.specs.TextForms.{composed_text, decomposed_text}
use Rattle.icu_normalizer.proofs.equivalence.NormalFormLemmas.{composed_scalars}
use Rattle.icu_collator_types.specs.declared.options.ResolvedCollatorOptions.{ResolvedCollatorOptions}
use Rattle.icu_collator_core.specs.Acceptance.{CollationSource}
use Rattle.icu_collator.specs.CollatorAnswers.{DifferInStrength, canonical_by, key_by, order_by}
use Rattle.icu_collator.specs.Collators.{borrowed_collation, borrowed_options, source_collation}
use Rattle.icu_collator.specs.NormalForms.{IsSplitFor, composed_bytes, composed_units, decomposed_bytes, decomposed_units}
use Rattle.icu_collator.specs.Order.{collation_order}
use Rattle.icu_collator.specs.declared.comparison.borrowed.CollatorBorrowed.{CollatorBorrowed}
use Rattle.icu_collator.proofs.CollatorLawLemmas.{composed_key, composed_left, composed_right, composed_text_key, decomposed_key, decomposed_left, decomposed_right, decomposed_text_key}
use Rattle.icu_collator.proofs.orders.StrengthsLemmas.{raised_order}

module _ (collator : CollatorBorrowed) (canonical : IsCanonical (canonical_by collator)) where
  -- ---- What forms that were written read as

  decomposed_scalars : (cs : List ℕ) → All IsScalar cs → All IsScalar (decomposed (canonical_by collator) cs)
  decomposed_scalars cs s = decomposed_all_scalars (canonical_by collator) cs canonical.decomposing s

  decomposed_bytes_read : (a : List ℕ) → utf8_chars (decomposed_bytes (canonical_by collator) a) ≡ decomposed (canonical_by collator) (utf8_chars a)
  decomposed_bytes_read a = utf8_text _ (decomposed_scalars (utf8_chars a) (utf8_scalars a))

  composed_bytes_read : (a : List ℕ) → utf8_chars (composed_bytes (canonical_by collator) a) ≡ composed (canonical_by collator) (utf8_chars a)
  composed_bytes_read a = utf8_text _ (composed_scalars (canonical_by collator) (utf8_chars a) canonical (utf8_scalars a))

  decomposed_units_read : (a : List ℕ) → All (λ unit. unit < 2 ^ 16) a → utf16_chars (decomposed_units (canonical_by collator) a) ≡ decomposed (canonical_by collator) (utf16_chars a)
  decomposed_units_read a u = utf16_text _ (decomposed_scalars (utf16_chars a) (utf16_scalars a u))

  composed_units_read : (a : List ℕ) → All (λ unit. unit < 2 ^ 16) a → utf16_chars (composed_units (canonical_by collator) a) ≡ composed (canonical_by collator) (utf16_chars a)
  composed_units_read a u = utf16_text _ (composed_scalars (canonical_by collator) (utf16_chars a) canonical (utf16_scalars a u))

  -- ---- Bytes

  pub decomposed_bytes_left : (a b : List ℕ) → order_by collator (utf8_chars (decomposed_bytes (canonical_by collator) a)) b ≡ order_by collator (utf8_chars a) b
  decomposed_bytes_left a b = ap (λ cs. order_by collator cs b) (decomposed_bytes_read a) ∙ decomposed_left collator canonical (utf8_chars a) b (utf8_scalars a)

  pub decomposed_bytes_right : (a b : List ℕ) → order_by collator a (utf8_chars (decomposed_bytes (canonical_by collator) b)) ≡ order_by collator a (utf8_chars b)
  decomposed_bytes_right a b = ap (λ cs. order_by collator a cs) (decomposed_bytes_read b) ∙ decomposed_right collator canonical a (utf8_chars b) (utf8_scalars b)

  pub decomposed_bytes_key : (a : List ℕ) → key_by collator (utf8_chars (decomposed_bytes (canonical_by collator) a)) ≡ key_by collator (utf8_chars a)
  decomposed_bytes_key a = ap (key_by collator) (decomposed_bytes_read a) ∙ decomposed_key collator canonical (utf8_chars a) (utf8_scalars a)

  pub composed_bytes_left : (a b : List ℕ) → order_by collator (utf8_chars (composed_bytes (canonical_by collator) a)) b ≡ order_by collator (utf8_chars a) b
  composed_bytes_left a b = ap (λ cs. order_by collator cs b) (composed_bytes_read a) ∙ composed_left collator canonical (utf8_chars a) b (utf8_scalars a)

  pub composed_bytes_right : (a b : List ℕ) → order_by collator a (utf8_chars (composed_bytes (canonical_by collator) b)) ≡ order_by collator a (utf8_chars b)
  composed_bytes_right a b = ap (λ cs. order_by collator a cs) (composed_bytes_read b) ∙ composed_right collator canonical a (utf8_chars b) (utf8_scalars b)

  pub composed_bytes_key : (a : List ℕ) → key_by collator (utf8_chars (composed_bytes (canonical_by collator) a)) ≡ key_by collator (utf8_chars a)
  composed_bytes_key a = ap (key_by collator) (composed_bytes_read a) ∙ composed_key collator canonical (utf8_chars a) (utf8_scalars a)

  -- ---- Units

  pub decomposed_units_left : (a b : List ℕ) → All (λ unit. unit < 2 ^ 16) a → order_by collator (utf16_chars (decomposed_units (canonical_by collator) a)) b ≡ order_by collator (utf16_chars a) b
  decomposed_units_left a b u = ap (λ cs. order_by collator cs b) (decomposed_units_read a u) ∙ decomposed_left collator canonical (utf16_chars a) b (utf16_scalars a u)

  pub decomposed_units_right : (a b : List ℕ) → All (λ unit. unit < 2 ^ 16) b → order_by collator a (utf16_chars (decomposed_units (canonical_by collator) b)) ≡ order_by collator a (utf16_chars b)
  decomposed_units_right a b u = ap (λ cs. order_by collator a cs) (decomposed_units_read b u) ∙ decomposed_right collator canonical a (utf16_chars b) (utf16_scalars b u)

  pub decomposed_units_key : (a : List ℕ) → All (λ unit. unit < 2 ^ 16) a → key_by collator (utf16_chars (decomposed_units (canonical_by collator) a)) ≡ key_by collator (utf16_chars a)
  decomposed_units_key a u = ap (key_by collator) (decomposed_units_read a u) ∙ decomposed_key collator canonical (utf16_chars a) (utf16_scalars a u)

  pub composed_units_left : (a b : List ℕ) → All (λ unit. unit < 2 ^ 16) a → order_by collator (utf16_chars (composed_units (canonical_by collator) a)) b ≡ order_by collator (utf16_chars a) b
  composed_units_left a b u = ap (λ cs. order_by collator cs b) (composed_units_read a u) ∙ composed_left collator canonical (utf16_chars a) b (utf16_scalars a u)

  pub composed_units_right : (a b : List ℕ) → All (λ unit. unit < 2 ^ 16) b → order_by collator a (utf16_chars (composed_units (canonical_by collator) b)) ≡ order_by collator a (utf16_chars b)
  composed_units_right a b u = ap (λ cs. order_by collator a cs) (composed_units_read b u) ∙ composed_right collator canonical a (utf16_chars b) (utf16_scalars b u)

  pub composed_units_key : (a : List ℕ) → All (λ unit. unit < 2 ^ 16) a → key_by collator (utf16_chars (composed_units (canonical_by collator) a)) ≡ key_by collator (utf16_chars a)
  composed_units_key a u = ap (key_by collator) (composed_units_read a u) ∙ composed_key collator canonical (utf16_chars a) (utf16_scalars a u)

  -- ---- Texts in two parts

  pub split_decomposed : (text prefix rest : List ℕ) → IsUtf8 text → IsSplitFor (decomposed_text (canonical_by collator)) text prefix rest
      → key_by collator (utf8_chars (prefix ++ decomposed_text (canonical_by collator) rest)) ≡ key_by collator (utf8_chars text)
  split_decomposed text prefix rest u split = ap (λ bytes. key_by collator (utf8_chars bytes)) split ∙ decomposed_text_key collator canonical text u

  pub split_composed : (text prefix rest : List ℕ) → IsUtf8 text → IsSplitFor (composed_text (canonical_by collator)) text prefix rest
      → key_by collator (utf8_chars (prefix ++ composed_text (canonical_by collator) rest)) ≡ key_by collator (utf8_chars text)
  split_composed text prefix rest u split = ap (λ bytes. key_by collator (utf8_chars bytes)) split ∙ composed_text_key collator canonical text u

  pub split_decomposed_bytes : (text prefix rest : List ℕ) → IsSplitFor (decomposed_bytes (canonical_by collator)) text prefix rest
      → key_by collator (utf8_chars (prefix ++ decomposed_bytes (canonical_by collator) rest)) ≡ key_by collator (utf8_chars text)
  split_decomposed_bytes text prefix rest split = ap (λ bytes. key_by collator (utf8_chars bytes)) split ∙ decomposed_bytes_key text

  pub split_composed_bytes : (text prefix rest : List ℕ) → IsSplitFor (composed_bytes (canonical_by collator)) text prefix rest
      → key_by collator (utf8_chars (prefix ++ composed_bytes (canonical_by collator) rest)) ≡ key_by collator (utf8_chars text)
  split_composed_bytes text prefix rest split = ap (λ bytes. key_by collator (utf8_chars bytes)) split ∙ composed_bytes_key text

  pub split_decomposed_units : (text prefix rest : List ℕ) → All (λ unit. unit < 2 ^ 16) text → IsSplitFor (decomposed_units (canonical_by collator)) text prefix rest
      → key_by collator (utf16_chars (prefix ++ decomposed_units (canonical_by collator) rest)) ≡ key_by collator (utf16_chars text)
  split_decomposed_units text prefix rest u split = ap (λ units. key_by collator (utf16_chars units)) split ∙ decomposed_units_key text u

  pub split_composed_units : (text prefix rest : List ℕ) → All (λ unit. unit < 2 ^ 16) text → IsSplitFor (composed_units (canonical_by collator)) text prefix rest
      → key_by collator (utf16_chars (prefix ++ composed_units (canonical_by collator) rest)) ≡ key_by collator (utf16_chars text)
  split_composed_units text prefix rest u split = ap (λ units. key_by collator (utf16_chars units)) split ∙ composed_units_key text u

-- ---- A higher strength

pub raised_answers : (lower higher : CollatorBorrowed) → DifferInStrength lower higher → (a b : List ℕ) → order_by lower a b ≢ Equal → order_by higher a b ≡ order_by lower a b
raised_answers lower higher differ a b differs =
    ap (λ (source : CollationSource). collation_order (source_collation source) (borrowed_options higher) a b) differ.same_tables
    ∙ ap (λ (options : ResolvedCollatorOptions). collation_order (borrowed_collation lower) options a b) differ.same_options
    ∙ raised_order (borrowed_collation lower) (borrowed_options lower) (borrowed_options lower).strength (borrowed_options higher).strength a b
    differ.case_level_is_off differ.is_raised differs
