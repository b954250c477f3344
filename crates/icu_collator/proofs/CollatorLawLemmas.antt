-- Laws of collators, from what every holder of one knows.
use Rattle.std.proofs.Common.{◌≡◌, ℕ, ◌<◌, ◌*◌, ◌/◌, ◌^◌, ◌++◌, false, List, Option, Some, None, ap, ◌∙◌, sym, arith}
use Rattle.std.specs.Prelude.{◌↔◌, All, IfSome, chars, encode_utf8_all}
use Rattle.std.specs.Str.{IsUtf8}
use Rattle.std.specs.Char.{IsScalar}
use Rattle.std.specs.Cmp.Lexicographic.{slice_cmp}
use Rattle.std.specs.Ordering.{nat_cmp}
use Rattle.std.specs.declared.cmp.Ordering.TheVariants.{Less, Equal, Greater}
use Rattle.std.proofs.lemmas.Str.{encodes-chars}
use Rattle.icu_normalizer_core.specs.Canonical.{IsCanonical, composed, decomposed}
use Rattle.icu_normalizer_core.specs.CanonicalMeaning.{meaning}
use Rattle.icu_normalizer_core.specs.Decoding.{latin1_chars, utf16_chars, utf8_chars}
use Rattle.icu_normalizer_core.proofs.decoded.DecodedLemmas.{latin1_scalars, utf16_scalars, utf8_scalars}
use Rattle.icu_normalizer_core.proofs.decoded.CanonicalTextLemmas.{utf8_text}
use Rattle.icu_normalizer.specs.Equivalence.{IsEquivalent}
use Rattle.icu_normalizer.specs.TextForms.{composed_text, decomposed_text}
use Rattle.icu_normalizer.proofs.equivalence.EquivalenceLemmas.{one_decomposed}
use Rattle.icu_normalizer.proofs.equivalence.TextFormLemmas.{composed_text_scalars, decomposed_text_scalars, text_scalars}
use Rattle.icu_collator_types.specs.declared.options.Strength.TheVariants.{Identical}
use Rattle.icu_collator_types.specs.Options.{is_at_least}
use Rattle.icu_collator_core.specs.Acceptance.{IsAccepted}
use Rattle.icu_collator_core.specs.Collation.{with_lead}
use Rattle.icu_collator_core.specs.TableSettings.{reordered_in}
use Rattle.icu_collator_core.specs.WeightFaults.{IsSoundReordering}
use Rattle.icu_collator_core.specs.declared.tables.reordering.CollationReordering.{CollationReordering}
use Rattle.icu_collator_core.specs.declared.tables.special_primaries.CollationSpecialPrimaries.{CollationSpecialPrimaries}
use Rattle.icu_collator.specs.CollatorAnswers.{DifferInNumber, HasKeysInOrder, OrdersNumbers, ReadsNumbers, canonical_by, key_by, order_by, value_by}
use Rattle.icu_collator.specs.Collators.{borrowed_collation, borrowed_options, borrowed_source}
use Rattle.icu_collator.specs.KeyBytes.{key_bytes}
use Rattle.icu_collator.specs.Levels.{Levels, levels_of_text}
use Rattle.icu_collator.specs.NumbersInTexts.{AreNumbersTogether}
use Rattle.icu_collator.specs.SoundCollation.{IsSoundCollation}
use Rattle.icu_collator.specs.LeadMoves.{IsOfWholeLeads, ReordersWholeLeads}
use Rattle.icu_collator.specs.declared.comparison.borrowed.CollatorBorrowed.{CollatorBorrowed}
use Rattle.icu_collator.proofs.equivalence.IdenticalLemmas.{equal_at_identical, equivalent_equal, same_levels}
use Rattle.icu_collator.proofs.equivalence.NormalisingLemmas.{composed_first, composed_levels, composed_second, decomposed_first, decomposed_levels, decomposed_second}
use Rattle.icu_collator.proofs.keys.TextKeyLemmas.{equal_text_keys, identical_text_keys, text_keys_order}
use Rattle.icu_collator.proofs.numbers.NumberKeyLemmas.{equal_value_keys, lower_key_first}
use Rattle.icu_collator.proofs.numbers.NumbersInTextsLemmas.{equal_runs, higher_behind, lower_first}
use Rattle.icu_collator.proofs.tables.AcceptedSettingLemmas.{accepted_collation}
use Rattle.icu_collator.proofs.tables.WholeLeadLemmas.{rest_kept}

-- ---- What texts decode to

pub utf8_read : (bytes : List ℕ) → All IsScalar (utf8_chars bytes)
utf8_read bytes = utf8_scalars bytes

pub utf16_read : (units : List ℕ) → All (λ unit. unit < 2 ^ 16) units → All IsScalar (utf16_chars units)
utf16_read units small = utf16_scalars units small

pub latin1_read : (bytes : List ℕ) → All (λ byte. byte < 2 ^ 8) bytes → All IsScalar (latin1_chars bytes)
latin1_read bytes small = latin1_scalars bytes small

-- scalar values that were written in UTF-8 are read back
written_read : (cs : List ℕ) → All IsScalar cs → utf8_chars (encode_utf8_all cs) ≡ cs
written_read cs s = utf8_text cs s

text_read : (text : List ℕ) → IsUtf8 text → utf8_chars text ≡ chars text
text_read text u = ap utf8_chars (sym (encodes-chars text u)) ∙ written_read (chars text) (text_scalars text u)

module _ (collator : CollatorBorrowed) (canonical : IsCanonical (canonical_by collator)) where
  -- ---- Equivalent texts

  pub equivalent_alike : (a b : List ℕ) → All IsScalar a → All IsScalar b → IsEquivalent (canonical_by collator) a b → order_by collator a b ≡ Equal
  equivalent_alike a b sa sb e = equivalent_equal (borrowed_collation collator) (borrowed_options collator) a b canonical.decomposing sa sb e

  pub equivalent_keys : (a b : List ℕ) → All IsScalar a → All IsScalar b → IsEquivalent (canonical_by collator) a b → key_by collator a ≡ key_by collator b
  equivalent_keys a b sa sb e =
      ap (λ (l : Levels). key_bytes (borrowed_collation collator) (borrowed_options collator) l)
      (same_levels (borrowed_collation collator) (borrowed_options collator) a b ((one_decomposed (canonical_by collator) a b canonical.decomposing sa sb).0 e))

  pub identical_alike : (borrowed_options collator).strength ≡ Identical → (a b : List ℕ) → All IsScalar a → All IsScalar b
      → (order_by collator a b ≡ Equal) ↔ IsEquivalent (canonical_by collator) a b
  identical_alike h a b sa sb = equal_at_identical (borrowed_collation collator) (borrowed_options collator) a b canonical.decomposing h sa sb

  pub identical_bytes : (borrowed_options collator).strength ≡ Identical → (a b : List ℕ)
      → (order_by collator (utf8_chars a) (utf8_chars b) ≡ Equal) ↔ IsEquivalent (canonical_by collator) (utf8_chars a) (utf8_chars b)
  identical_bytes h a b = identical_alike h (utf8_chars a) (utf8_chars b) (utf8_scalars a) (utf8_scalars b)

  -- ---- Normal forms

  pub form_key : (a n : List ℕ) → levels_of_text (borrowed_collation collator) (borrowed_options collator) n ≡ levels_of_text (borrowed_collation collator) (borrowed_options collator) a
      → key_by collator n ≡ key_by collator a
  form_key a n e = ap (λ (l : Levels). key_bytes (borrowed_collation collator) (borrowed_options collator) l) e

  pub decomposed_left : (a b : List ℕ) → All IsScalar a → order_by collator (decomposed (canonical_by collator) a) b ≡ order_by collator a b
  decomposed_left a b s = decomposed_first (borrowed_collation collator) (borrowed_options collator) a b canonical.decomposing s

  pub decomposed_right : (a b : List ℕ) → All IsScalar b → order_by collator a (decomposed (canonical_by collator) b) ≡ order_by collator a b
  decomposed_right a b s = decomposed_second (borrowed_collation collator) (borrowed_options collator) a b canonical.decomposing s

  pub composed_left : (a b : List ℕ) → All IsScalar a → order_by collator (composed (canonical_by collator) a) b ≡ order_by collator a b
  composed_left a b s = composed_first (borrowed_collation collator) (borrowed_options collator) a b canonical s

  pub composed_right : (a b : List ℕ) → All IsScalar b → order_by collator a (composed (canonical_by collator) b) ≡ order_by collator a b
  composed_right a b s = composed_second (borrowed_collation collator) (borrowed_options collator) a b canonical s

  pub decomposed_key : (a : List ℕ) → All IsScalar a → key_by collator (decomposed (canonical_by collator) a) ≡ key_by collator a
  decomposed_key a s = form_key a _ (decomposed_levels (borrowed_collation collator) (borrowed_options collator) a canonical.decomposing s)

  pub composed_key : (a : List ℕ) → All IsScalar a → key_by collator (composed (canonical_by collator) a) ≡ key_by collator a
  composed_key a s = form_key a _ (composed_levels (borrowed_collation collator) (borrowed_options collator) a canonical s)

  -- ---- Normal forms of texts in UTF-8

  pub decomposed_read : (text : List ℕ) → IsUtf8 text → utf8_chars (decomposed_text (canonical_by collator) text) ≡ decomposed (canonical_by collator) (utf8_chars text)
  decomposed_read text u =
      written_read _ (decomposed_text_scalars (canonical_by collator) text u canonical.decomposing) ∙ ap (decomposed (canonical_by collator)) (sym (text_read text u))

  pub composed_read : (text : List ℕ) → IsUtf8 text → utf8_chars (composed_text (canonical_by collator) text) ≡ composed (canonical_by collator) (utf8_chars text)
  composed_read text u =
      written_read _ (composed_text_scalars (canonical_by collator) text u canonical) ∙ ap (composed (canonical_by collator)) (sym (text_read text u))

  pub decomposed_text_left : (a b : List ℕ) → IsUtf8 a → order_by collator (utf8_chars (decomposed_text (canonical_by collator) a)) b ≡ order_by collator (utf8_chars a) b
  decomposed_text_left a b u = ap (λ cs. order_by collator cs b) (decomposed_read a u) ∙ decomposed_left (utf8_chars a) b (utf8_scalars a)

  pub decomposed_text_right : (a b : List ℕ) → IsUtf8 b → order_by collator a (utf8_chars (decomposed_text (canonical_by collator) b)) ≡ order_by collator a (utf8_chars b)
  decomposed_text_right a b u = ap (λ cs. order_by collator a cs) (decomposed_read b u) ∙ decomposed_right a (utf8_chars b) (utf8_scalars b)

  pub decomposed_text_key : (a : List ℕ) → IsUtf8 a → key_by collator (utf8_chars (decomposed_text (canonical_by collator) a)) ≡ key_by collator (utf8_chars a)
  decomposed_text_key a u = ap (key_by collator) (decomposed_read a u) ∙ decomposed_key (utf8_chars a) (utf8_scalars a)

  pub composed_text_left : (a b : List ℕ) → IsUtf8 a → order_by collator (utf8_chars (composed_text (canonical_by collator) a)) b ≡ order_by collator (utf8_chars a) b
  composed_text_left a b u = ap (λ cs. order_by collator cs b) (composed_read a u) ∙ composed_left (utf8_chars a) b (utf8_scalars a)

  pub composed_text_right : (a b : List ℕ) → IsUtf8 b → order_by collator a (utf8_chars (composed_text (canonical_by collator) b)) ≡ order_by collator a (utf8_chars b)
  composed_text_right a b u = ap (λ cs. order_by collator a cs) (composed_read b u) ∙ composed_right a (utf8_chars b) (utf8_scalars b)

  pub composed_text_key : (a : List ℕ) → IsUtf8 a → key_by collator (utf8_chars (composed_text (canonical_by collator) a)) ≡ key_by collator (utf8_chars a)
  composed_text_key a u = ap (key_by collator) (composed_read a u) ∙ composed_key (utf8_chars a) (utf8_scalars a)

-- ---- What checked tables add

-- tables that reorder whole leads keep what stands after a lead
whole_kept : (special : CollationSpecialPrimaries) (o : Option CollationReordering)
    → IfSome o (IsSoundReordering special) → IfSome o IsOfWholeLeads
    → (p : ℕ) → reordered_in o p ≡ with_lead (λ lead. reordered_in o (lead * 2 ^ 24) / 2 ^ 24) p
whole_kept special (Some reordering) sound moves = rest_kept special reordering sound moves
whole_kept special None sound moves = λ p. omega arith

module _ (collator : CollatorBorrowed) (accepted : IsAccepted (meaning (borrowed_source collator).canonical) (borrowed_source collator).tables) (canonical : IsCanonical (canonical_by collator)) where
  numbers_together : ReordersWholeLeads (borrowed_source collator).tables → AreNumbersTogether (borrowed_collation collator)
  numbers_together moves p _ =
      whole_kept (borrowed_source collator).tables.special_primaries (borrowed_source collator).tables.reordering accepted.reordering moves p

  sound : HasKeysInOrder collator → IsSoundCollation (borrowed_collation collator)
  sound keys = accepted_collation (meaning (borrowed_source collator).canonical) (borrowed_source collator).tables accepted keys.leads

  pub keys_order : HasKeysInOrder collator → (a b : List ℕ) → All IsScalar a → All IsScalar b
      → slice_cmp nat_cmp (key_by collator a) (key_by collator b) ≡ order_by collator a b
  keys_order keys a b sa sb = text_keys_order (borrowed_collation collator) (borrowed_options collator) a b canonical.decomposing (sound keys) keys.plain sa sb

  pub keys_equal : HasKeysInOrder collator → (a b : List ℕ) → All IsScalar a → All IsScalar b
      → (key_by collator a ≡ key_by collator b) ↔ (order_by collator a b ≡ Equal)
  keys_equal keys a b sa sb = equal_text_keys (borrowed_collation collator) (borrowed_options collator) a b canonical.decomposing (sound keys) keys.plain sa sb

  pub keys_order_bytes : HasKeysInOrder collator → (a b : List ℕ)
      → slice_cmp nat_cmp (key_by collator (utf8_chars a)) (key_by collator (utf8_chars b)) ≡ order_by collator (utf8_chars a) (utf8_chars b)
  keys_order_bytes keys a b = keys_order keys (utf8_chars a) (utf8_chars b) (utf8_scalars a) (utf8_scalars b)

  pub identical_keys : HasKeysInOrder collator → (borrowed_options collator).strength ≡ Identical → (a b : List ℕ) → All IsScalar a → All IsScalar b
      → (key_by collator a ≡ key_by collator b) ↔ IsEquivalent (canonical_by collator) a b
  identical_keys keys h a b sa sb =
      identical_text_keys (borrowed_collation collator) (borrowed_options collator) a b canonical.decomposing (sound keys) keys.plain h sa sb

  -- ---- Numbers

  pub lower_number : OrdersNumbers collator → ReordersWholeLeads (borrowed_source collator).tables
      → (x r s y : List ℕ) → DifferInNumber collator x r s y → value_by collator r < value_by collator s
      → order_by collator (x ++ (r ++ y)) (x ++ (s ++ y)) ≡ Less
  lower_number orders moves x r s y differ below =
      lower_first (borrowed_collation collator) (borrowed_options collator) x r s y canonical.decomposing orders.digits orders.dots (numbers_together moves)
      orders.numeric orders.none_is_variable differ.first differ.second below

  pub higher_number : OrdersNumbers collator → ReordersWholeLeads (borrowed_source collator).tables
      → (x r s y : List ℕ) → DifferInNumber collator x r s y → value_by collator s < value_by collator r
      → order_by collator (x ++ (r ++ y)) (x ++ (s ++ y)) ≡ Greater
  higher_number orders moves x r s y differ below =
      higher_behind (borrowed_collation collator) (borrowed_options collator) x r s y canonical.decomposing orders.digits orders.dots (numbers_together moves)
      orders.numeric orders.none_is_variable differ.first differ.second below

  pub equal_numbers : ReadsNumbers collator → is_at_least (borrowed_options collator).strength Identical ≡ false
      → (x r s y : List ℕ) → DifferInNumber collator x r s y → value_by collator r ≡ value_by collator s
      → order_by collator (x ++ (r ++ y)) (x ++ (s ++ y)) ≡ Equal
  equal_numbers reads below x r s y differ same =
      equal_runs (borrowed_collation collator) (borrowed_options collator) x r s y canonical.decomposing reads.apart reads.numeric below
      differ.first differ.second same

  pub lower_number_key : OrdersNumbers collator → HasKeysInOrder collator
      → (x r s y : List ℕ) → DifferInNumber collator x r s y → All IsScalar (x ++ (r ++ y)) → All IsScalar (x ++ (s ++ y))
      → value_by collator r < value_by collator s
      → slice_cmp nat_cmp (key_by collator (x ++ (r ++ y))) (key_by collator (x ++ (s ++ y))) ≡ Less
  lower_number_key orders keys x r s y differ first second below =
      lower_key_first (borrowed_collation collator) (borrowed_options collator) x r s y canonical.decomposing (sound keys) keys.plain
      orders.digits orders.dots orders.numeric orders.none_is_variable differ.first differ.second first second below

  pub equal_number_keys : ReadsNumbers collator → HasKeysInOrder collator → is_at_least (borrowed_options collator).strength Identical ≡ false
      → (x r s y : List ℕ) → DifferInNumber collator x r s y → All IsScalar (x ++ (r ++ y)) → All IsScalar (x ++ (s ++ y))
      → value_by collator r ≡ value_by collator s
      → key_by collator (x ++ (r ++ y)) ≡ key_by collator (x ++ (s ++ y))
  equal_number_keys reads keys below x r s y differ first second same =
      equal_value_keys (borrowed_collation collator) (borrowed_options collator) x r s y canonical.decomposing (sound keys) keys.plain
      reads.apart reads.numeric below differ.first differ.second first second same
