-- What the rules give of recorded texts, digits and ranges of accepted lines.
use Rattle.std.proofs.Common.{◌≡◌, ℕ, ◌<◌, ◌≤◌, inl, inr, Bool, true, false, cond, not, ◌==◌, ◌&&◌, ◌||◌, List, [], ◌∷◌, length, Option, Some, None, refl, sym, ap, subst, ◌∙◌, ⊎_elim}
use Rattle.std.specs.Bool.{IsTrue}
use Rattle.std.specs.List.{list_all, list_any}
use Rattle.std.proofs.lemmas.Bool.{and_from, and_parts, eqb-true, false_from_ne_true, false≢true, not-false, or_left, or_parts, true_from_ne_false, cases_lt}
use Rattle.std.proofs.lemmas.List.Elements.{All-get_or}
use Rattle.std.proofs.lemmas.Option.{cond_some, none-some, unwrap_or-slice_get}
use Rattle.icu_normalizer_core.specs.BuiltIn.{is_jamo}
use Rattle.icu_normalizer_core.specs.Canonical.{Canonical, is_starter}
use Rattle.icu_collator_types.specs.declared.elements.Element.{Element}
use Rattle.icu_collator_core.specs.ContextRules.{has_marks_last, is_prefix_character, is_recorded_in, is_recorded_shorter, may_be_digit, may_have_prefix}
use Rattle.collate_lines.specs.declared.rule.Rule.TheVariants.{Limit, V8, V9, V10, V11, V12}
use Rattle.collate_lines.specs.Record.{Record, nothing, class, mapping, compatibility, weights, range, digit, setting}
use Rattle.collate_lines.specs.Repeats.{record_at}
use Rattle.collate_rules.specs.Accepted.{AreAccepted, IsSaid}
use Rattle.collate_rules.specs.Meaning.{canonical_of, digit_in, first_found, recorded_in, weights_of}
use Rattle.collate_rules.specs.RecordRules.{breaks_digits, breaks_marks_last, breaks_prefixes, digit_of, has_late_starter, has_starter_behind, is_alone, is_bad_digit, is_bad_jamo_record, is_badly_prefixed, is_one_word, is_replaced, lacks_shorter, may_follow_prefix}
use Rattle.collate_rules.specs.Rules.{IsLong}
use Rattle.collate_rules.proofs.lookups.FoundLemmas.{found_at}
use Rattle.collate_rules.proofs.offenders.BreachLemmas.{none_together}
use Rattle.collate_compile.proofs.laws.CompiledCharacterLemmas.{AreCharacters, HasCharacters, line_has_characters}
use Rattle.collate_compile.proofs.laws.CompiledLineLemmas.{none_at, recorded_line}

not_both : (b : Bool) → not (not b) ≡ b
not_both true = refl
not_both false = refl

-- the line of a digit
digit_line : (c v : ℕ) (line : Record) → digit_in c line ≡ Some v → line ≡ digit c v
digit_line c v (digit d w) h =
    let told = cond_some (c == d) w v h in
    let same : c ≡ d = eqb-true c d told.0 in
    let equal : w ≡ v = told.1 in
    cc
digit_line c v nothing h = absurd (none-some v h)
digit_line c v (class d k) h = absurd (none-some v h)
digit_line c v (mapping d ds x) h = absurd (none-some v h)
digit_line c v (compatibility d ds) h = absurd (none-some v h)
digit_line c v (weights layer prefix text es) h = absurd (none-some v h)
digit_line c v (range r) h = absurd (none-some v h)
digit_line c v (setting s) h = absurd (none-some v h)

-- ---- Marks last

late_starters : (canonical : Canonical) (text : List ℕ)
    → list_any (λ c. not (not (is_starter canonical c))) text ≡ false
    → list_all (λ m. not (is_starter canonical m)) text ≡ true
late_starters canonical [] h = refl
late_starters canonical (c ∷ cs) h =
    let both =
    or_parts (not (not (is_starter canonical c))) (list_any (λ c. not (not (is_starter canonical c))) cs) h in
    and_from (not (is_starter canonical c)) (list_all (λ m. not (is_starter canonical m)) cs)
    (not-false (not (is_starter canonical c)) both.0) (late_starters canonical cs both.1)

marks_stay_last : (canonical : Canonical) (text : List ℕ)
    → has_starter_behind (λ c. not (is_starter canonical c)) (λ c. not (not (is_starter canonical c))) text ≡ false
    → has_marks_last canonical text ≡ true
unfolding has_marks_last
marks_stay_last canonical [] h = refl
marks_stay_last canonical (c ∷ cs) h =
    by (is_starter canonical c)
    (or_parts (not (is_starter canonical c) && list_any (λ c. not (not (is_starter canonical c))) cs)
    (has_starter_behind (λ c. not (is_starter canonical c)) (λ c. not (not (is_starter canonical c))) cs) h).0
    (marks_stay_last canonical cs
    (or_parts (not (is_starter canonical c) && list_any (λ c. not (not (is_starter canonical c))) cs)
    (has_starter_behind (λ c. not (is_starter canonical c)) (λ c. not (not (is_starter canonical c))) cs) h).1)
  where
    by : (starter : Bool) → (not starter && list_any (λ c. not (not (is_starter canonical c))) cs) ≡ false
        → has_marks_last canonical cs ≡ true
        → cond starter (has_marks_last canonical cs) (list_all (λ m. not (is_starter canonical m)) cs) ≡ true
    by true g later = later
    by false g later = late_starters canonical cs g

-- ---- Accepted lines

module _ (lines : List Record) (accepted : AreAccepted lines) where
  abbrev canonical : Canonical
  canonical = canonical_of lines

  abbrev is_recorded : List ℕ → List ℕ → Bool
  is_recorded = is_recorded_in (weights_of lines)

  -- what is recorded is of characters
  pub recorded_characters : (prefix text : List ℕ) (es : List Element) → recorded_in lines prefix text ≡ Some es
      → AreCharacters prefix text
  recorded_characters prefix text es h =
      let line = recorded_line lines prefix text es h in
      let said = All-get_or IsSaid lines line.index nothing line.inside accepted.in_grammar in
      let at : HasCharacters (record_at lines line.index) =
      subst HasCharacters (sym (unwrap_or-slice_get lines line.index nothing)) (line_has_characters said.0 _ said.1) in
      subst HasCharacters line.says at

  -- a text has at most eight characters
  pub recorded_short : (prefix text : List ℕ) (es : List Element) → recorded_in lines prefix text ≡ Some es
      → length text ≤ 8
  recorded_short prefix text es h =
      let line = recorded_line lines prefix text es h in
      ⊎_elim
      (λ (long : 8 < length text). absurd
      (accepted.keep_rules Limit line.index line.inside (inr (subst IsLong (sym line.says) (inl long)))))
      (λ few. few)
      (cases_lt 8 (length text))

  -- V8
  pub recorded_marks_last : (prefix text : List ℕ) (es : List Element) → recorded_in lines prefix text ≡ Some es
      → has_marks_last canonical text ≡ true
  recorded_marks_last prefix text es h =
      let line = recorded_line lines prefix text es h in
      let none =
      none_together (λ ls. IsTrue (breaks_marks_last lines ls)) (λ e. false≢true e) lines (accepted.keep_rules V8) in
      marks_stay_last canonical text
      (false_from_ne_true _
      (λ late. none_at (has_late_starter lines lines) lines line.index none line.inside
      (ap (has_late_starter lines lines) line.says ∙ late)))

  -- V9
  pub recorded_shorter : (prefix : List ℕ) (c : ℕ) (suffix : List ℕ) (es : List Element)
      → recorded_in lines prefix (c ∷ suffix) ≡ Some es
      → is_recorded_shorter canonical is_recorded c suffix ≡ true
  recorded_shorter prefix c suffix es h =
      let line = recorded_line lines prefix (c ∷ suffix) es h in
      true_from_ne_false _
      (λ lacks. accepted.keep_rules V9 line.index line.inside
      (ap (lacks_shorter lines) line.says ∙ ap not lacks))

  -- V10
  prefix_kept : (b : ℕ) (bs text : List ℕ) (es : List Element) → recorded_in lines (b ∷ bs) text ≡ Some es
      → (list_all (is_prefix_character canonical (digit_of lines)) (b ∷ bs) && may_follow_prefix lines lines text) ≡ true
  prefix_kept b bs text es h =
      let line = recorded_line lines (b ∷ bs) text es h in
      let none =
      none_together (λ ls. IsTrue (breaks_prefixes lines ls)) (λ e. false≢true e) lines (accepted.keep_rules V10) in
      true_from_ne_false _
      (λ bad. none_at (is_badly_prefixed lines lines) lines line.index none line.inside
      (ap (is_badly_prefixed lines lines) line.says ∙ ap not bad))

  pub recorded_prefix : (b : ℕ) (bs text : List ℕ) (es : List Element) → recorded_in lines (b ∷ bs) text ≡ Some es
      → list_all (is_prefix_character canonical (digit_of lines)) (b ∷ bs) ≡ true
  recorded_prefix b bs text es h = (and_parts _ _ (prefix_kept b bs text es h)).0

  pub recorded_after : (b : ℕ) (bs : List ℕ) (c : ℕ) (es : List Element) → recorded_in lines (b ∷ bs) (c ∷ []) ≡ Some es
      → may_have_prefix canonical (digit_of lines) is_recorded c ≡ true
  recorded_after b bs c es h =
      (and_parts (list_all (is_prefix_character canonical (digit_of lines)) (b ∷ bs)) _
      (prefix_kept b bs (c ∷ []) es h)).1

  -- no longer text stands after a prefix
  pub prefixed_alone : (b : ℕ) (bs : List ℕ) (c d : ℕ) (ds : List ℕ) → recorded_in lines (b ∷ bs) (c ∷ d ∷ ds) ≡ None
  prefixed_alone b bs c d ds = at (recorded_in lines (b ∷ bs) (c ∷ d ∷ ds)) refl
    where
      at : (o : Option (List Element)) → recorded_in lines (b ∷ bs) (c ∷ d ∷ ds) ≡ o → o ≡ None
      at None is = refl
      at (Some es) is =
          absurd (false≢true (and_parts (list_all (is_prefix_character canonical (digit_of lines)) (b ∷ bs)) _ (prefix_kept b bs (c ∷ d ∷ ds) es is)).1)

  -- V11
  digit_kept : (c v : ℕ) → first_found (digit_in c) lines ≡ Some v → is_bad_digit lines lines (digit c v) ≡ false
  digit_kept c v h =
      let found = found_at (digit_in c) lines v h in
      let none =
      none_together (λ ls. IsTrue (breaks_digits lines ls)) (λ e. false≢true e) lines (accepted.keep_rules V11) in
      false_from_ne_true _
      (λ bad. none_at (is_bad_digit lines lines) lines found.0 none found.1
      (ap (is_bad_digit lines lines) (digit_line c v (record_at lines found.0) found.2) ∙ bad))

  pub digit_may_be : (c v : ℕ) → first_found (digit_in c) lines ≡ Some v → may_be_digit canonical is_recorded c ≡ true
  digit_may_be c v h =
      not-false (may_be_digit canonical is_recorded c)
      (or_parts (not (may_be_digit canonical is_recorded c)) _ (digit_kept c v h)).0

  -- V12
  pub jamo_alone : (prefix : List ℕ) (c : ℕ) (cs : List ℕ) (es : List Element) → is_jamo c ≡ true
      → recorded_in lines prefix (c ∷ cs) ≡ Some es
      → is_alone prefix (c ∷ cs) ≡ true
  jamo_alone prefix c cs es jamo h =
      let line = recorded_line lines prefix (c ∷ cs) es h in
      let kept : (list_any is_jamo (c ∷ cs) && not (is_alone prefix (c ∷ cs) && (is_replaced lines line.layer prefix (c ∷ cs) || is_one_word es))) ≡ false =
      false_from_ne_true _ (λ bad. accepted.keep_rules V12 line.index line.inside (ap (is_bad_jamo_record lines) line.says ∙ bad)) in
      let some : list_any is_jamo (c ∷ cs) ≡ true = or_left (is_jamo c) (list_any is_jamo cs) jamo in
      let rest : (is_alone prefix (c ∷ cs) && (is_replaced lines line.layer prefix (c ∷ cs) || is_one_word es)) ≡ true =
      not-false _
      (ap (λ (b : Bool). b && not (is_alone prefix (c ∷ cs) && (is_replaced lines line.layer prefix (c ∷ cs) || is_one_word es))) (sym some) ∙ kept) in
      (and_parts (is_alone prefix (c ∷ cs)) _ rest).0
