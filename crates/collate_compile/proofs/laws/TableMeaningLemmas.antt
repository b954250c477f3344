-- What the word that counts for a character means, in compiled tables.
use Rattle.std.proofs.Common.{◌≡◌, ℕ, ◌+◌, ◌-◌, ◌<◌, inl, inr, Bool, true, false, cond, not, ◌==◌, ◌&&◌, leb, List, [], ◌∷◌, Option, Some, None, refl, sym, ap, subst, ◌∙◌, arith, ⊎_elim}
use Rattle.std.specs.Prelude.{is_some, slice_index, MatchOption}
use Rattle.std.specs.Option.{option_map}
use Rattle.std.specs.List.{list_any}
use Rattle.std.proofs.lemmas.Bool.{MatchBool-at_false, MatchBool-at_true, and_from, and_parts, cases_Bool, cond-false, cond-true, cond_both, false_from_ne_true, false≢true, ne_eqb, eq-eqb, not_from_false, true≢false}
use Rattle.std.proofs.lemmas.List.Elements.{All-nil}
use lib.Utf8.{scalar}
use Rattle.icu_normalizer_core.specs.BuiltIn.{is_jamo}
use Rattle.icu_normalizer_core.specs.Canonical.{Canonical, is_starter}
use Rattle.icu_collator_types.specs.declared.elements.Element.{Element}
use Rattle.icu_collator_core.specs.declared.check.layers.Layer.TheVariants.{Root}
use Rattle.icu_collator_core.specs.declared.tables.CollationTables.{CollationTables}
use Rattle.icu_collator_core.specs.declared.tables.data.CollationData.{CollationData}
use Rattle.icu_collator_core.specs.Pools.{Pools}
use Rattle.icu_collator_core.specs.TableMeaning.{TableWord, counting_word, diacritic, fallback, pools_of, tailored_word, word_at, word_in}
use Rattle.icu_collator_core.specs.UnrecordedWords.{implicit}
use Rattle.icu_collator_core.specs.WeightRules.{AreSoundWeights}
use Rattle.icu_collator_core.specs.Weights.{Range}
use Rattle.icu_collator_core.specs.WordForms.{IsWord}
use Rattle.icu_collator_core.proofs.meaning.CountingWordLemmas.{jamo_word, mark_word}
use Rattle.collate_lines.specs.Record.{Record}
use Rattle.collate_rules.specs.Accepted.{AreAccepted}
use Rattle.collate_rules.specs.Meaning.{first_found, is_compressible_in, range_in, recorded_in, weights_of}
use Rattle.collate_rules.specs.RecordRules.{digit_of}
use Rattle.collate_words.specs.Written.{SaysOf}
use Rattle.collate_compile.specs.Compiled.{AreCompiledFrom, IsJamoWord}
use Rattle.collate_compile.specs.Layers.{IsRootOf, IsTailoringOf, IsUnwritten, IsWrittenOf}
use Rattle.collate_compile.specs.LineSayings.{IsSaidAfter, IsSaidBehind, IsSayingOf, begins_line, is_rooted, is_tailored, offset_bits, offset_of, ranged_saying}
use Rattle.collate_compile.proofs.laws.JamoLemmas.{jamo_means, jamo_stated}
use Rattle.collate_compile.proofs.laws.CompiledLineLemmas.{unbegun}
use Rattle.collate_compile.proofs.laws.MeaningLemmas.{Means, implicit_means, saying_means}
use Rattle.collate_compile.proofs.laws.OwnPrimaryLemmas.{jamo_bounds}
use Rattle.collate_compile.proofs.laws.RuleLemmas.{digit_may_be}

-- a word of the root isn't the fallback
pub not_fallback : (pools : Pools) (word : ℕ) → IsWord Root pools word → (word == fallback) ≡ false
not_fallback pools word form = ne_eqb word fallback (λ same. none (subst (IsWord Root pools) same form))
  where
    none : IsWord Root pools fallback → ⊥
    none (inl digit) = false≢true digit
    none (inr (inl (inl own))) = false≢true own
    none (inr (inl (inr contraction))) = false≢true contraction.0
    none (inr (inr prefixed)) = false≢true prefixed.0

no_range : (k : ℕ → Bool) (o : Option Range) → option_map (offset_bits k) o ≡ None → o ≡ None
no_range k None h = refl
no_range k (Some r) h = absurd (cc)

module _ (lines : List Record) (accepted : AreAccepted lines) (sound : AreSoundWeights (weights_of lines)) (c : ℕ) (s : scalar c ≡ true) where
  -- a digit begins a line
  no_digit : ((prefix cs : List ℕ) → recorded_in lines prefix (c ∷ cs) ≡ None) → digit_of lines c ≡ None
  no_digit none = at (digit_of lines c) refl
    where
      at : (o : Option ℕ) → digit_of lines c ≡ o → o ≡ None
      at None is = refl
      at (Some v) is =
          let may = (and_parts _ _ (and_parts _ _ (digit_may_be lines accepted c v is)).1).1 in
          absurd (false≢true (sym (ap (λ (o : Option (List Element)). is_some o) (none [] [])) ∙ may))

  -- what is said of a character of a range that begins no line
  ranged_says : (bits : ℕ) → ((prefix cs : List ℕ) → recorded_in lines prefix (c ∷ cs) ≡ None)
      → offset_of lines c ≡ Some bits
      → IsSayingOf lines c (ranged_saying bits)
  ranged_says bits none is = record {
    own = sym (none [] []);
    offset = sym is ∙ sym (ap (λ (o : Option (List Element)). cond (is_some o) None (offset_of lines c)) (none [] []));
    digit = sym (no_digit none);
    suffixes = λ d ds. sym (none [] (d ∷ ds));
    prefixes = λ b bs. sym (none (b ∷ bs) []);
    behind = All-nil (IsSaidBehind lines c);
    after = All-nil (IsSaidAfter lines c);
    all_begin = refl;
    one_ends = refl;
    one_holds = refl;
  }

  written_means : (source : CollationData) → IsWrittenOf lines source c → Means lines c (word_in source c)
  written_means source written = saying_means lines accepted sound c s (word_in source c) written.0 written.1 written.2

  unwritten_means : (source : CollationData) → list_any (begins_line c) lines ≡ false → IsUnwritten lines source c
      → Means lines c (word_in source c)
  unwritten_means source unbegins unwritten = at (offset_of lines c) refl unwritten
    where
      none : (prefix cs : List ℕ) → recorded_in lines prefix (c ∷ cs) ≡ None
      none prefix cs = unbegun lines c prefix cs unbegins

      at : (o : Option ℕ) → offset_of lines c ≡ o
          → MatchOption o (word_at source c ≡ implicit) (λ bits. SaysOf (pools_of source) (word_at source c) (ranged_saying bits))
          → Means lines c (word_in source c)
      at None is same =
          implicit_means lines accepted sound c s (word_in source c) same none (no_digit none)
          (no_range (is_compressible_in lines) (first_found (range_in c) lines) is)
      at (Some bits) is says =
          saying_means lines accepted sound c s (word_in source c) (ranged_saying bits) (ranged_says bits none is) says

  root_means : (source : CollationData) → IsRootOf lines source → is_jamo c ≡ false → is_tailored lines c ≡ false
      → Means lines c (word_in source c)
  root_means source root other untailored =
      ⊎_elim
      (λ rooted. written_means source
      (MatchBool-at_true (IsWrittenOf lines source c) (IsUnwritten lines source c) rooted (root.words c s)))
      (λ unrooted.
      unwritten_means source (unbegins unrooted)
      (MatchBool-at_false (IsWrittenOf lines source c) (IsUnwritten lines source c) unrooted (root.words c s)))
      (cases_Bool (is_rooted lines c))
    where
      unbegins : is_rooted lines c ≡ false → list_any (begins_line c) lines ≡ false
      unbegins unrooted =
          false_from_ne_true _
          (λ begins.
          true≢false
          (sym (and_from (not (is_jamo c)) _ (not_from_false (is_jamo c) other)
          (and_from (not (is_tailored lines c)) (list_any (begins_line c) lines)
          (not_from_false (is_tailored lines c) untailored) begins)) ∙ unrooted))

  tailored_means : (tables : CollationTables) → AreCompiledFrom lines tables → is_jamo c ≡ false
      → Means lines c (tailored_word tables c)
  tailored_means tables compiled other = at tables.tailoring compiled.tailoring
    where
      at : (o : Option CollationData) → MatchOption o ((d : ℕ) → is_tailored lines d ≡ false) (IsTailoringOf lines)
          → Means lines c (elim o as (λ _. TableWord) [
            | Some tailoring ↦ cond (word_at tailoring c == fallback) (word_in tables.root c) (word_in tailoring c)
            | None ↦ word_in tables.root c
          ])
      at None untailored = root_means tables.root compiled.root other (untailored c)
      at (Some source) of_source =
          ⊎_elim
          (λ tailored.
          let written =
          MatchBool-at_true (IsWrittenOf lines source c) (word_at source c ≡ fallback) tailored (of_source.words c s) in
          subst (Means lines c)
          (sym (cond-false (word_at source c == fallback) (word_in tables.root c) (word_in source c) (not_fallback (pools_of source) (word_at source c) (written.2).form)))
          (written_means source written))
          (λ untailored.
          let left =
          MatchBool-at_false (IsWrittenOf lines source c) (word_at source c ≡ fallback) untailored
          (of_source.words c s) in
          subst (Means lines c)
          (sym (cond-true (word_at source c == fallback) (word_in tables.root c) (word_in source c) (eq-eqb (word_at source c) fallback left)))
          (root_means tables.root compiled.root other untailored))
          (cases_Bool (is_tailored lines c))

  jamo_word_means : (tables : CollationTables) → AreCompiledFrom lines tables → is_jamo c ≡ true
      → Means lines c (jamo_word tables c)
  jamo_word_means tables compiled jamo =
      let bounds = jamo_bounds c jamo in
      let inside : c - 0x1100 < 256 = omega (arith, bounds.0, bounds.1) in
      let back : 0x1100 + (c - 0x1100) ≡ c = omega (arith, bounds.0) in
      let is =
      subst (λ (d : ℕ). IsJamoWord lines d (slice_index tables.jamo.ce32s (c - 0x1100))) back
      (compiled.jamo.each (c - 0x1100) inside) in
      jamo_means lines accepted sound c jamo (jamo_word tables c) (jamo_stated lines c _ jamo is)

  no_mark : (canonical : Canonical) (secondaries : List ℕ) → secondaries ≡ [] → diacritic canonical secondaries c ≡ None
  no_mark canonical secondaries none =
      ap (λ (list : List ℕ). diacritic canonical list c) none
      ∙ cond_both (leb 0x300 c && not (is_starter canonical c)) None None (λ (o : Option ℕ). o ≡ None) (λ _. refl)
      (λ _. refl)

  pub counting_means : (canonical : Canonical) (tables : CollationTables) → AreCompiledFrom lines tables
      → Means lines c (counting_word canonical tables c)
  unfolding counting_word
  counting_means canonical tables compiled =
      at (diacritic canonical tables.diacritics.secondaries c)
      (no_mark canonical tables.diacritics.secondaries compiled.no_diacritics)
    where
      at : (o : Option ℕ) → o ≡ None
          → Means lines c (elim o as (λ _. TableWord) [
            | Some secondary ↦ mark_word tables secondary
            | None ↦ cond (is_jamo c) (jamo_word tables c) (tailored_word tables c)
          ])
      at None is =
          cond_both (is_jamo c) (jamo_word tables c) (tailored_word tables c) (Means lines c)
          (jamo_word_means tables compiled) (tailored_means tables compiled)
      at (Some secondary) is = absurd (cc)
