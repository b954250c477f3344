-- Accepted lines whose longer texts hold no digit give data that keep what the law of numbers asks.
use Rattle.std.proofs.Common.{◌≡◌, ℕ, ◌<◌, Bool, true, false, not, ◌&&◌, ◌||◌, List, [], ◌∷◌, length, Option, Some, None, refl, sym, ap, ◌∙◌, subst, arith}
use Rattle.std.specs.Prelude.{ltb}
use Rattle.std.specs.Bool.{IsTrue}
use Rattle.std.specs.Char.{IsScalar}
use Rattle.std.specs.List.{list_all, list_any}
use Rattle.std.specs.Option.{is_some}
use Rattle.std.proofs.lemmas.Bool.{and_from, and_parts, eqb-true, false_from_ne_true, false≢true, not-true, or_from, or_left, or_parts, true≢false}
use Rattle.std.proofs.lemmas.Bool.Decides.{nat_tests}
use Rattle.std.proofs.lemmas.List.Elements.{All-cons, All-nil}
use lib.Utf8.{scalar}
use Rattle.icu_normalizer_core.specs.Canonical.{Canonical, IsDecomposing, nothing, unmapped, is_starter}
use Rattle.icu_normalizer_core.proofs.decomposed_lists.DecomposedLemmas.{AreUnmapped, decomposed_unmapped, left_one}
use Rattle.icu_collator_types.specs.declared.elements.Element.{Element}
use Rattle.icu_collator_core.specs.ContextRules.{is_prefix_character, is_recorded_in, may_be_digit}
use Rattle.icu_collator_core.specs.Defaults.{special_primary}
use Rattle.icu_collator.specs.NumbersInTexts.{AreDigitsAlone, AreDigitsApart, AreNumbersTogether, holds_digit, is_digit}
use Rattle.collate_lines.specs.declared.rule.Rule.TheVariants.{V7, V13}
use Rattle.collate_lines.specs.Record.{Record, weights}
use Rattle.collate_rules.specs.Accepted.{AreAccepted}
use Rattle.collate_rules.specs.Meaning.{canonical_of, collation_of, recorded_in, step_of, weights_of}
use Rattle.collate_rules.specs.RecordRules.{breaks_decomposed, digit_of, is_special, is_undecomposed, is_unlike_decomposed, names_special}
use Rattle.collate_rules.proofs.offenders.BreachLemmas.{none_together}
use Rattle.collate_record_rules.proofs.records.DecomposedTextLemmas.{own_decomposed}
use Rattle.collate_compile.proofs.laws.CompiledLineLemmas.{IsLine, any_at, none_at, recorded_line}
use Rattle.collate_compile.proofs.laws.RuleLemmas.{digit_may_be, recorded_characters, recorded_prefix}
use Rattle.collate_records.proofs.reading.ReadingAcceptedLemmas.{accepted_decompose}
use Rattle.collate_laws.proofs.LawSoundLemmas.{accepted_sound}
use Rattle.collate_laws.specs.NumbersApart.{HaveNumbersApart, JoinNoDigits, joins_digit}

pub some_of : {A : Type 0} (o : Option A) → is_some o ≡ true → (x : A) × (o ≡ Some x)
some_of (Some x) h = (x, refl)
some_of None h = absurd (false≢true h)

is_character : (c : ℕ) → scalar c ≡ true → IsScalar c
is_character c h = grind (arith, nat_tests)

unspecial : (c : ℕ) → is_special c ≡ false → special_primary c ≡ None
unfolding special_primary
unspecial c h = grind (arith, nat_tests)

not_both : (a b : Bool) → (a && b) ≡ false → (not a || not b) ≡ true
not_both true b h = ap not h
not_both false b h = refl

-- a prefix holds no digit
no_digit : (canonical : Canonical) (digit : ℕ → Option ℕ) (prefix : List ℕ)
    → list_all (is_prefix_character canonical digit) prefix ≡ true → list_any (λ c. is_some (digit c)) prefix ≡ false
no_digit canonical digit [] h = refl
no_digit canonical digit (c ∷ cs) h =
    let both = and_parts (is_prefix_character canonical digit c) (list_all (is_prefix_character canonical digit) cs) h in
    or_from (is_some (digit c)) (list_any (λ c. is_some (digit c)) cs)
    (not-true (is_some (digit c)) (and_parts (not (is_some (digit c))) _ (and_parts (is_starter canonical c) _ both.0).1).0)
    (no_digit canonical digit cs both.1)

module _ (records : List Record) (accepted : AreAccepted records) where
  abbrev canonical : Canonical
  canonical = canonical_of records

  -- a digit is a starter that is recorded alone
  may_be : (c : ℕ) → is_digit (weights_of records) c ≡ true → may_be_digit canonical (is_recorded_in (weights_of records)) c ≡ true
  may_be c h = let value = some_of (digit_of records c) h in digit_may_be records accepted c value.0 value.1

  starter : (c : ℕ) → is_digit (weights_of records) c ≡ true → canonical.class c ≡ 0
  starter c h = eqb-true (canonical.class c) 0 (and_parts (is_starter canonical c) _ (may_be c h)).0

  alone : (c : ℕ) → is_digit (weights_of records) c ≡ true → (es : List Element) × (recorded_in records [] (c ∷ []) ≡ Some es)
  alone c h = some_of (recorded_in records [] (c ∷ [])) (and_parts _ _ (and_parts (is_starter canonical c) _ (may_be c h)).1).1

  line : (c : ℕ) (h : is_digit (weights_of records) c ≡ true) → IsLine records [] (c ∷ []) (alone c h).0
  line c h = recorded_line records [] (c ∷ []) (alone c h).0 (alone c h).1

  pub digit_scalar : (c : ℕ) → is_digit (weights_of records) c ≡ true → IsScalar c
  digit_scalar c h =
      is_character c (and_parts (scalar c) true (recorded_characters records accepted [] (c ∷ []) (alone c h).0 (alone c h).1).whole).0

  -- V7: it isn't mapped
  like_decomposed : (c : ℕ) → is_digit (weights_of records) c ≡ true → is_unlike_decomposed records (c ∷ []) ≡ false
  like_decomposed c h =
      let l = line c h in
      let none = none_together (λ ls. IsTrue (breaks_decomposed ls)) (λ e. false≢true e) records (accepted.keep_rules V7) in
      (or_parts (is_unlike_decomposed records []) (is_unlike_decomposed records (c ∷ []))
      (false_from_ne_true _ (λ bad. none_at (is_undecomposed records) records l.index none l.inside (ap (is_undecomposed records) l.says ∙ bad)))).1

  own : (c : ℕ) → is_digit (weights_of records) c ≡ true → canonical.full c ≡ c ∷ []
  own c h =
      let decomposing : IsDecomposing canonical = accepted_decompose records accepted in
      let is_scalar = digit_scalar c h in
      let none =
      subst (AreUnmapped canonical) (own_decomposed records (c ∷ []) (like_decomposed c h))
      (decomposed_unmapped canonical (c ∷ []) decomposing (All-cons IsScalar c [] is_scalar (All-nil IsScalar))) in
      left_one (step_of records) (c ∷ []) (canonical.full c) (c ∷ []) (decomposing.ends c is_scalar) (unmapped c [] [] none.0 nothing)

  -- V13
  plain : (c : ℕ) → is_digit (weights_of records) c ≡ true → special_primary c ≡ None
  plain c h =
      let l = line c h in
      unspecial c
      (false_from_ne_true (is_special c)
      (λ is. accepted.keep_rules V13 l.index l.inside (ap names_special l.says ∙ or_left (is_special c) false is)))

  -- V10
  unprefixed : (prefix text : List ℕ) → holds_digit (weights_of records) prefix ≡ true → recorded_in records prefix text ≡ None
  unprefixed [] text h = absurd (false≢true h)
  unprefixed (b ∷ bs) text h = at (recorded_in records (b ∷ bs) text) refl
    where
      at : (o : Option (List Element)) → recorded_in records (b ∷ bs) text ≡ o → o ≡ None
      at None is = refl
      at (Some es) is =
          absurd (true≢false (sym h ∙ no_digit canonical (digit_of records) (b ∷ bs) (recorded_prefix records accepted b bs text es is)))

  unjoined : JoinNoDigits records → (prefix text : List ℕ) → 1 < length text → holds_digit (weights_of records) text ≡ true
      → recorded_in records prefix text ≡ None
  unjoined none prefix text long h = at (recorded_in records prefix text) refl
    where
      at : (o : Option (List Element)) → recorded_in records prefix text ≡ o → o ≡ None
      at None is = refl
      at (Some es) is =
          let l = recorded_line records prefix text es is in
          let joins : joins_digit records (weights l.layer prefix text es) ≡ true =
          and_from (ltb 1 (length text)) (holds_digit (weights_of records) text) (grind (arith, nat_tests)) h in
          absurd (true≢false (sym (any_at (joins_digit records) records l.index l.inside (ap (joins_digit records) l.says ∙ joins)) ∙ none))

  pub digits_alone : JoinNoDigits records → AreDigitsAlone (collation_of records)
  digits_alone none =
      let sound = accepted_sound records accepted in
      record {
        lead = sound.settings.numeric_lead;
        values = sound.weights.digits;
        starters = starter;
        own = own;
        plain = plain;
        alone = unjoined none;
        prefixes = unprefixed;
      }

  pub digits_apart : HaveNumbersApart records → AreDigitsApart (collation_of records)
  digits_apart apart = record { digits = digits_alone apart.alone; accents = not_both _ _ apart.accents }

  pub numbers_together : AreNumbersTogether (collation_of records)
  numbers_together p in_lead = (accepted_sound records accepted).settings.rest p
