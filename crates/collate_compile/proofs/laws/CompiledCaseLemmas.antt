-- The word that compiled data have for a character: it says what lines record of it, what range it is in, or nothing.
use Rattle.std.proofs.Common.{◌≡◌, ℕ, ◌<◌, ◌⊎◌, inl, inr, Bool, true, false, not, ◌==◌, leb, List, [], ◌∷◌, length, Option, Some, None, refl, sym, ap, ◌∙◌, arith}
use Rattle.std.specs.Prelude.{MatchOption}
use Rattle.std.specs.Bool.{IsTrue}
use Rattle.std.specs.List.{list_any}
use Rattle.std.specs.Option.{option_map}
use Rattle.std.proofs.lemmas.Bool.{MatchBool-at_false, MatchBool-at_true, and_parts, cases_Bool, cond-false, eq-eqb, eqb-false, eqb-true, false_from_ne_true, false≢true, leb-true, ne_eqb, or_left, or_right, true≢false}
use Rattle.std.proofs.lemmas.Option.{cond_some, none-some}
use lib.Utf8.{scalar}
use Rattle.icu_normalizer_core.specs.BuiltIn.{is_jamo, is_within}
use Rattle.icu_collator_core.specs.declared.check.layers.Layer.{Layer}
use Rattle.icu_collator_core.specs.declared.check.layers.Layer.TheVariants.{Root, Tailoring}
use Rattle.icu_collator_core.specs.declared.tables.data.CollationData.{CollationData}
use Rattle.icu_collator_core.specs.Defaults.{special_primary}
use Rattle.icu_collator_core.specs.TableMeaning.{fallback, pools_of, word_at}
use Rattle.icu_collator_core.specs.UnrecordedWords.{implicit, records_nothing}
use Rattle.icu_collator_core.specs.Weights.{Range}
use Rattle.collate_lines.specs.declared.rule.Rule.TheVariants.{V13}
use Rattle.collate_lines.specs.Record.{Record, nothing, class, mapping, compatibility, weights, range, digit, setting}
use Rattle.collate_lines.specs.Repeats.{record_at}
use Rattle.collate_rules.specs.Accepted.{AreAccepted}
use Rattle.collate_rules.specs.Meaning.{first_found, is_compressible_in, range_in, span_of}
use Rattle.collate_rules.specs.RecordRules.{begins_with, is_special, names_special}
use Rattle.collate_rules.proofs.lookups.FoundLemmas.{found_at}
use Rattle.collate_words.specs.Sayings.{Saying}
use Rattle.collate_words.specs.Written.{SaysOf}
use Rattle.collate_compile.specs.Layers.{IsRootOf, IsTailoringOf, IsUnwritten, IsWrittenOf}
use Rattle.collate_compile.specs.LineSayings.{IsSayingOf, begins_line, begins_tailored_line, is_rooted, is_tailored, offset_bits, offset_of, ranged_saying}
use Rattle.collate_compile.proofs.laws.CompiledLineLemmas.{line_index}

-- the cases of a word
pub data IsCase (lines : List Record) (layer : Layer) (source : CollationData) (c : ℕ) : Type 0 where
  by_lines : (saying : Saying) → special_primary c ≡ None → IsSayingOf lines c saying
      → SaysOf (pools_of source) (word_at source c) saying
      → IsCase lines layer source c
  by_range : (bits : ℕ) → special_primary c ≡ None → offset_of lines c ≡ Some bits
      → SaysOf (pools_of source) (word_at source c) (ranged_saying bits) → IsCase lines layer source c
  by_none : IsTrue (records_nothing layer (word_at source c)) → IsCase lines layer source c

-- ---- Special characters

unspecial : (c : ℕ) → is_special c ≡ false → special_primary c ≡ None
unfolding special_primary
unspecial c none =
    cond-false (c == 0xfffe) _ _ (other 0xfffe refl)
    ∙ cond-false (c == 0xfffd) _ _ (other 0xfffd refl)
    ∙ cond-false (c == 0xffff) _ _ (other 0xffff refl)
  where
    other : (d : ℕ) → is_special d ≡ true → (c == d) ≡ false
    other d is = ne_eqb c d (λ same. true≢false (sym is ∙ ap is_special (sym same) ∙ none))

-- the three
special_cases : (c : ℕ) → is_special c ≡ true → (c ≡ 0xfffd) ⊎ ((c ≡ 0xfffe) ⊎ (c ≡ 0xffff))
special_cases c is = at (c == 0xfffd) (c == 0xfffe) refl refl
  where
    at : (a b : Bool) → (c == 0xfffd) ≡ a → (c == 0xfffe) ≡ b → (c ≡ 0xfffd) ⊎ ((c ≡ 0xfffe) ⊎ (c ≡ 0xffff))
    at true b e f = inl (eqb-true c 0xfffd e)
    at false true e f = inr (inl (eqb-true c 0xfffe f))
    at false false e f =
        let both = and_parts (leb 0xfffd c) (leb c 0xffff) is in
        let low = leb-true 0xfffd c both.0 in
        let high = leb-true c 0xffff both.1 in
        let first = eqb-false c 0xfffd e in
        let second = eqb-false c 0xfffe f in
        inr (inr (omega (arith, low, high, first, second)))

begins_special : (c : ℕ) (line : Record) → begins_line c line ≡ true → is_special c ≡ true → names_special line ≡ true
begins_special c (weights layer prefix [] es) h is = absurd (false≢true h)
begins_special c (weights layer prefix (d ∷ ds) es) h is =
    or_right (list_any is_special prefix) _
    (or_left (is_special d) (list_any is_special ds) (ap is_special (sym (eqb-true c d h)) ∙ is))
begins_special c nothing h is = absurd (false≢true h)
begins_special c (class d k) h is = absurd (false≢true h)
begins_special c (mapping d ds x) h is = absurd (false≢true h)
begins_special c (compatibility d ds) h is = absurd (false≢true h)
begins_special c (range r) h is = absurd (false≢true h)
begins_special c (digit d v) h is = absurd (false≢true h)
begins_special c (setting s) h is = absurd (false≢true h)

tailored_begins : (c : ℕ) (line : Record) → begins_tailored_line c line ≡ true → begins_line c line ≡ true
tailored_begins c (weights layer prefix text es) h = (and_parts _ (begins_with c text) h).1
tailored_begins c nothing h = h
tailored_begins c (class d k) h = h
tailored_begins c (mapping d ds x) h = h
tailored_begins c (compatibility d ds) h = h
tailored_begins c (range r) h = h
tailored_begins c (digit d v) h = h
tailored_begins c (setting s) h = h

range_special : (c : ℕ) (line : Record) (r : Range) → range_in c line ≡ Some r → is_special c ≡ true
    → names_special line ≡ true
range_special c (range t) r h is = at (special_cases c is)
  where
    holds : is_within t.first t.last c ≡ true
    holds = (cond_some (is_within t.first t.last c) (span_of t) r h).0

    at : (c ≡ 0xfffd) ⊎ ((c ≡ 0xfffe) ⊎ (c ≡ 0xffff))
        → list_any (is_within t.first t.last) (0xfffd ∷ 0xfffe ∷ 0xffff ∷ []) ≡ true
    at (inl e) = or_left (is_within t.first t.last 0xfffd) _ (ap (is_within t.first t.last) (sym e) ∙ holds)
    at (inr (inl e)) =
        or_right (is_within t.first t.last 0xfffd) _
        (or_left (is_within t.first t.last 0xfffe) _ (ap (is_within t.first t.last) (sym e) ∙ holds))
    at (inr (inr e)) =
        or_right (is_within t.first t.last 0xfffd) _
        (or_right (is_within t.first t.last 0xfffe) _
        (or_left (is_within t.first t.last 0xffff) _ (ap (is_within t.first t.last) (sym e) ∙ holds)))
range_special c nothing r h is = absurd (none-some r h)
range_special c (class d k) r h is = absurd (none-some r h)
range_special c (mapping d ds x) r h is = absurd (none-some r h)
range_special c (compatibility d ds) r h is = absurd (none-some r h)
range_special c (weights layer prefix text es) r h is = absurd (none-some r h)
range_special c (digit d v) r h is = absurd (none-some r h)
range_special c (setting s) r h is = absurd (none-some r h)

module _ (lines : List Record) (accepted : AreAccepted lines) (c : ℕ) where
  begun_unspecial : (i : ℕ) → i < length lines → begins_line c (record_at lines i) ≡ true → special_primary c ≡ None
  begun_unspecial i lt begins =
      unspecial c
      (false_from_ne_true (is_special c)
      (λ is. accepted.keep_rules V13 i lt (begins_special c (record_at lines i) begins is)))

  ranged_unspecial : (r : Range) → first_found (range_in c) lines ≡ Some r → special_primary c ≡ None
  ranged_unspecial r h =
      let found = found_at (range_in c) lines r h in
      unspecial c
      (false_from_ne_true (is_special c)
      (λ is. accepted.keep_rules V13 found.0 found.1 (range_special c (record_at lines found.0) r found.2 is)))

  offset_unspecial : (bits : ℕ) → offset_of lines c ≡ Some bits → special_primary c ≡ None
  offset_unspecial bits h = at (first_found (range_in c) lines) refl h
    where
      at : (o : Option Range) → first_found (range_in c) lines ≡ o
          → option_map (offset_bits (is_compressible_in lines)) o ≡ Some bits
          → special_primary c ≡ None
      at None is e = absurd (none-some bits e)
      at (Some r) is e = ranged_unspecial r is

  -- ---- The cases of data

  written_case : (layer : Layer) (source : CollationData) → special_primary c ≡ None → IsWrittenOf lines source c
      → IsCase lines layer source c
  written_case layer source plain written = by_lines written.0 plain written.1 written.2

  pub root_case : (source : CollationData) → IsRootOf lines source → scalar c ≡ true → IsCase lines Root source c
  root_case source root s = at (cases_Bool (is_rooted lines c))
    where
      unwritten : (o : Option ℕ) → offset_of lines c ≡ o
          → MatchOption o (word_at source c ≡ implicit) (λ bits. SaysOf (pools_of source) (word_at source c) (ranged_saying bits))
          → IsCase lines Root source c
      unwritten None is same =
          by_none (or_left (word_at source c == implicit) _ (eq-eqb (word_at source c) implicit same))
      unwritten (Some bits) is says = by_range bits (offset_unspecial bits is) is says

      at : (is_rooted lines c ≡ true) ⊎ (is_rooted lines c ≡ false) → IsCase lines Root source c
      at (inl rooted) =
          let begins = (and_parts _ (list_any (begins_line c) lines) (and_parts (not (is_jamo c)) _ rooted).1).1 in
          let index = line_index (begins_line c) lines begins in
          written_case Root source (begun_unspecial index.0 index.1 index.2)
          (MatchBool-at_true (IsWrittenOf lines source c) (IsUnwritten lines source c) rooted (root.words c s))
      at (inr unrooted) =
          unwritten (offset_of lines c) refl
          (MatchBool-at_false (IsWrittenOf lines source c) (IsUnwritten lines source c) unrooted (root.words c s))

  pub tailoring_case : (source : CollationData) → IsTailoringOf lines source → scalar c ≡ true
      → IsCase lines Tailoring source c
  tailoring_case source of_source s = at (cases_Bool (is_tailored lines c))
    where
      at : (is_tailored lines c ≡ true) ⊎ (is_tailored lines c ≡ false) → IsCase lines Tailoring source c
      at (inl tailored) =
          let index = line_index (begins_tailored_line c) lines (and_parts (not (is_jamo c)) _ tailored).1 in
          written_case Tailoring source
          (begun_unspecial index.0 index.1 (tailored_begins c (record_at lines index.0) index.2))
          (MatchBool-at_true (IsWrittenOf lines source c) (word_at source c ≡ fallback) tailored (of_source.words c s))
      at (inr untailored) =
          by_none
          (or_right (word_at source c == implicit) _
          (eq-eqb (word_at source c) fallback
          (MatchBool-at_false (IsWrittenOf lines source c) (word_at source c ≡ fallback) untailored
          (of_source.words c s))))
