-- Runs of code points that both tries have one word for, and Hangul syllables, with which nothing is wrong.
use Rattle.std.proofs.Common.{◌≡◌, ℕ, ◌+◌, ◌-◌, ◌/◌, ◌%◌, ◌<◌, ◌≤◌, ◌==◌, ◌&&◌, leb, inl, inr, ⊎_elim, true, false, cond, List, [], ◌∷◌, ◌++◌, length, flat_map, Some, None, refl, sym, ap, subst, ◌∙◌, arith}
use Rattle.std.specs.List.{All, Contains}
use Rattle.std.specs.Option.{unwrap_or}
use lib.Utf8.{low_scalar}
use Rattle.std.proofs.lemmas.Bool.{and_from, and_parts, both_ways, cases_Bool, cond-true, cond-false, eq-eqb, false≢true, le-leb, leb-true}
use Rattle.std.proofs.lemmas.Bool.Decides.{eqb_tells}
use Rattle.std.proofs.lemmas.List.Elements.{All-cons, All-contains, All-head, All-nil, All-tail, All-weaker}
use Rattle.std.proofs.lemmas.Option.{none-some, same_Some}
use Rattle.icu_codepointtrie.specs.CellRuns.{IsEndOfCells}
use Rattle.icu_codepointtrie.specs.Slots.{has_cell}
use Rattle.icu_normalizer_core.specs.declared.canonical.canonical_words.Words.{Words}
use Rattle.icu_normalizer_core.specs.declared.canonical.tables.CanonicalTables.{CanonicalTables}
use Rattle.icu_normalizer_core.specs.BuiltIn.{built_in_class, built_in_compatibility_step, is_jamo, is_syllable}
use Rattle.icu_normalizer_core.specs.CanonicalLists.{CanonicalLists, canonical_of}
use Rattle.icu_normalizer_core.specs.CanonicalMeaning.{lists_of}
use Rattle.icu_normalizer_core.specs.CanonicalWords.{class_of_word, full_of_word, is_inside, is_word, plain_word, states_list, syllable_letters}
use Rattle.icu_normalizer_core.specs.Compatibility.{fixed_list}
use Rattle.icu_normalizer_core.specs.CompatibilityFaults.{IsOwnItem, OffendsFixed, OffendsWord, OffendsWordList}
use Rattle.icu_normalizer_core.specs.CompatibilityWalks.{AreHarmless, AreLettersOwn, IsCommonRun, IsSilentSyllable}
use Rattle.icu_normalizer_core.specs.Plain.{AreSilent, IsNothingBuiltIn}
use Rattle.icu_normalizer_core.specs.Words.{WordLists, class_in, full_in, word_lists}
use Rattle.icu_normalizer_core.proofs.accepted.TableMeanings.{class_is, full_is}
use Rattle.icu_normalizer_core.proofs.built.BuiltInFacts.{free_full, letters_short}
use Rattle.icu_normalizer_core.proofs.compatible.FixedListLemmas.{fixed_built, fixed_step}
use Rattle.icu_normalizer_core.proofs.faults.ToldLemmas.{full_built_in, one_form, one_inside, one_letters}

-- ---- Nothing is fixed where nothing is built in

at_halfwidth : built_in_class 0xff9e ≡ Some 0
unfolding built_in_class
at_halfwidth = refl

at_other : built_in_class 0xff9f ≡ Some 0
unfolding built_in_class
at_other = refl

no_class_no_step : (c : ℕ) → built_in_class c ≡ None → built_in_compatibility_step c ≡ None
unfolding built_in_compatibility_step
no_class_no_step c none =
    ⊎_elim
    (λ w. absurd (none-some 0 (sym none ∙ ap built_in_class w.1 ∙ at_halfwidth)))
    (λ f. cond-false (c == 0xff9e) _ _ f.0
    ∙ ⊎_elim
    (λ w. absurd (none-some 0 (sym none ∙ ap built_in_class w.1 ∙ at_other)))
    (λ g. cond-false (c == 0xff9f) _ _ g.0)
    (eqb_tells c 0xff9f))
    (eqb_tells c 0xff9e)

nothing_fixed : (c : ℕ) → IsNothingBuiltIn c → fixed_list c ≡ None
nothing_fixed c nothing = fixed_step c (free_full c nothing.2) (let high = nothing.0 in omega (arith, high)) ∙ no_class_no_step c nothing.1

-- ---- Runs

pub common_run : (tables : CanonicalTables) (words : Words) (code a b end : ℕ) → IsEndOfCells tables.trie code a → IsEndOfCells words.trie.now code b
    → end ≤ a → end ≤ b → IsCommonRun tables words code end
common_run tables words code a b end first second low high = record {
  canonical = λ c from to. first.values c from (omega (arith, to, low));
  words = λ c from to. second.values c from (omega (arith, to, high));
  cells = λ c from to. second.cells c from (omega (arith, to, high));
}

pub common_from : (tables : CanonicalTables) (words : Words) (start end code : ℕ) → IsCommonRun tables words start end → start ≤ code → code < end → IsCommonRun tables words code end
common_from tables words start end code run from some = record {
  canonical = λ c low high. run.canonical c (omega (arith, from, low)) high ∙ sym (run.canonical code from some);
  words = λ c low high. run.words c (omega (arith, from, low)) high ∙ sym (run.words code from some);
  cells = λ c low high. run.cells c (omega (arith, from, low)) high ∙ sym (run.cells code from some);
}

-- what the words of a run say nothing of
pub harmless_run : (tables : CanonicalTables) (words : Words) (word code end silence stop : ℕ) → IsCommonRun tables words code end → has_cell words.trie.now code ≡ true
    → (word_lists words).word code ≡ word → (lists_of tables).word code ≡ word → (word ≡ 1 → AreLettersOwn (word_lists words))
    → AreSilent word code silence → stop ≤ silence → stop ≤ end → AreHarmless (lists_of tables) (word_lists words) code stop
harmless_run tables words word code end silence stop run has mine its own silent within to c low high =
    let inside : c < end = omega (arith, high, to) in
    let cell : (word_lists words).has_word c ≡ true = run.cells c low inside ∙ has in
    let first : (word_lists words).word c ≡ word = ap (λ v. plain_word (unwrap_or v 0)) (run.words c low inside) ∙ mine in
    let second : (lists_of tables).word c ≡ word = ap (λ v. plain_word (unwrap_or v 0)) (run.canonical c low inside) ∙ its in
    ⊎_elim
    (λ w. inl (cell, first ∙ w.0, second ∙ w.0, nothing_fixed c w.1))
    (λ w. inr (cell, first ∙ w.0, second ∙ w.0, w.1, own w.0))
    (silent c low (omega (arith, high, within)))

pub harmless_none : (lists : CanonicalLists) (words : WordLists) (code : ℕ) → AreHarmless lists words code code
harmless_none lists words code c low high = absurd (omega (arith, low, high))

-- ---- The letters of a syllable

letter : (d : ℕ) → 0x1100 ≤ d → d ≤ 0x11ff → is_jamo d ≡ true
letter d h k = and_from (leb 0x1100 d) (leb d 0x11ff) (le-leb 0x1100 d h) (le-leb d 0x11ff k)

letters_jamo : (c : ℕ) → is_syllable c ≡ true → All (λ (d : ℕ). is_jamo d ≡ true) (syllable_letters c)
unfolding syllable_letters
letters_jamo c e =
    let both = and_parts (leb 0xac00 c) (leb c 0xd7a3) e in
    let low = leb-true 0xac00 c both.0 in
    let high = leb-true c 0xd7a3 both.1 in
    let i : ℕ = c - 0xac00 in
    let first = letter (0x1100 + i / 588) (omega arith) (omega arith) in
    let second = letter (0x1161 + i % 588 / 28) (omega arith) (omega arith) in
    let third = letter (0x11a7 + i % 28) (omega arith) (omega arith) in
    let P : ℕ → Type 0 = λ d. is_jamo d ≡ true in
    let rest : List ℕ = cond ((i % 28) == 0) [] ((0x11a7 + i % 28) ∷ []) in
    All-cons P (0x1100 + i / 588) ((0x1161 + i % 588 / 28) ∷ rest) first
    (All-cons P (0x1161 + i % 588 / 28) rest second
    (⊎_elim
    (λ t. subst (λ (xs : List ℕ). All P xs) (sym (cond-true ((i % 28) == 0) [] ((0x11a7 + i % 28) ∷ []) t)) (All-nil P))
    (λ f. subst (λ (xs : List ℕ). All P xs) (sym (cond-false ((i % 28) == 0) [] ((0x11a7 + i % 28) ∷ []) f)) (All-cons P (0x11a7 + i % 28) [] third (All-nil P)))
    (cases_Bool ((i % 28) == 0))))

own_joined : (full : ℕ → List ℕ) (xs : List ℕ) → All (λ (d : ℕ). full d ≡ d ∷ []) xs → flat_map full xs ≡ xs
own_joined full [] own = refl
own_joined full (x ∷ xs) own =
    ap (λ (ys : List ℕ). ys ++ flat_map full xs) (All-head (λ (d : ℕ). full d ≡ d ∷ []) x xs own) ∙ ap (λ (ys : List ℕ). x ∷ ys) (own_joined full xs (All-tail (λ (d : ℕ). full d ≡ d ∷ []) x xs own))

module _ (lists : CanonicalLists) (words : WordLists) (c : ℕ) (silent : IsSilentSyllable lists words c) where
  full_mine : full_in words c ≡ syllable_letters c
  full_mine = ap (full_of_word words.scalars16 words.scalars24 c) silent.1 ∙ one_letters words.scalars16 words.scalars24 c

  full_its : (canonical_of lists).full c ≡ syllable_letters c
  full_its = full_is lists c ∙ ap (full_of_word lists.scalars16 lists.scalars24 c) silent.2 ∙ one_letters lists.scalars16 lists.scalars24 c

  class_same : class_in words c ≡ (canonical_of lists).class c
  class_same = ap (class_of_word c) silent.1 ∙ ap (class_of_word c) (sym silent.2) ∙ sym (class_is lists c)

  pub syllable_word : OffendsWord lists words c → ⊥
  syllable_word bad =
      both_ways _ bad
      (and_from (words.has_word c && is_word c (words.word c)) (class_in words c == (canonical_of lists).class c)
      (and_from (words.has_word c) (is_word c (words.word c)) silent.0 (ap (is_word c) silent.1 ∙ one_form c silent.3))
      (eq-eqb (class_in words c) ((canonical_of lists).class c) class_same))

  letter_item : (d : ℕ) → is_jamo d ≡ true → IsOwnItem words d
  letter_item d e =
      let r = leb-true d 0x11ff (and_parts (leb 0x1100 d) (leb d 0x11ff) e).1 in
      (low_scalar d (omega (arith, r)), silent.4 d e)

  own_letters : All (λ (d : ℕ). full_in words d ≡ d ∷ []) (syllable_letters c)
  own_letters = All-weaker (λ (d : ℕ). is_jamo d ≡ true) (λ (d : ℕ). full_in words d ≡ d ∷ []) (λ d e. silent.4 d e) (syllable_letters c) (letters_jamo c silent.3)

  pub syllable_list : OffendsWordList lists words c → ⊥
  syllable_list (inl outside) =
      false≢true (sym outside ∙ ap (λ (w : ℕ). is_inside words.scalars16 words.scalars24 w) silent.1 ∙ one_inside words.scalars16 words.scalars24)
  syllable_list (inr (inl over)) = let e = ap (λ (xs : List ℕ). length xs) full_mine in let short = letters_short c in omega (arith, e, over, short)
  syllable_list (inr (inr (inl other))) =
      other.2 (letter_item other.0 (All-contains (λ (d : ℕ). is_jamo d ≡ true) (syllable_letters c) other.0 (letters_jamo c silent.3) (subst (λ (xs : List ℕ). Contains xs other.0) full_mine other.1)))
  syllable_list (inr (inr (inr (inl begins)))) =
      let none : states_list 1 ≡ false = refl in false≢true (sym none ∙ ap (λ (w : ℕ). states_list w) (sym silent.1) ∙ begins.1)
  syllable_list (inr (inr (inr (inr other)))) =
      other (full_mine ∙ sym (own_joined (full_in words) (syllable_letters c) own_letters) ∙ ap (flat_map (full_in words)) (sym full_its))

  pub syllable_fixed : OffendsFixed words c → ⊥
  syllable_fixed bad =
      let letters : syllable_letters c ≡ bad.0 = same_Some (syllable_letters c) bad.0 (sym (fixed_built c (syllable_letters c) (full_built_in c silent.3)) ∙ bad.1) in
      bad.2 (full_mine ∙ letters)
