-- What a walk over the code points finds of compatibility words that are at fault.
use Rattle.std.proofs.Common.{◌≡◌, ℕ, ◌+◌, ◌<◌, ◌≤◌, inl, inr, ⊎_elim, Bool, true, false, ◌&&◌, ◌==◌, Option, None, Some, refl, sym, ap, subst, ◌∙◌, arith}
use Rattle.std.specs.Char.{IsScalar}
use Rattle.std.proofs.lemmas.Bool.{and_from, both_ways, cases_lt, eq-eqb}
use Rattle.std.proofs.lemmas.Option.{none-some}
use Rattle.icu_normalizer_core.specs.declared.compatibility.check.walk.Faults.{Faults}
use Rattle.icu_normalizer_core.specs.CanonicalFaults.{NoneOffends, IsLeastOffender}
use Rattle.icu_normalizer_core.specs.CanonicalLists.{CanonicalLists, canonical_of}
use Rattle.icu_normalizer_core.specs.CanonicalWords.{is_word, class_of_word}
use Rattle.icu_normalizer_core.specs.CompatibilityFaults.{OffendsWord, OffendsWordList, OffendsFixed}
use Rattle.icu_normalizer_core.specs.CompatibilityWalks.{SaysNothing, NoneOffendsBelow, IsLeastBelow, AreFaultsBelow, IsHarmless, AreHarmless}
use Rattle.icu_normalizer_core.specs.Words.{WordLists, class_in}
use Rattle.icu_normalizer_core.proofs.compatible.HarmlessLemmas.{syllable_fixed, syllable_list, syllable_word}
use Rattle.icu_normalizer_core.proofs.decoded.ScalarLemmas.{scalar_below}
use Rattle.icu_normalizer_core.proofs.accepted.TableMeanings.{class_is, zero_form}
use Rattle.icu_normalizer_core.proofs.full_lists.WordListLemmas.{plain_good}

-- ---- A character whose words say nothing is at fault for nothing

module _ (lists : CanonicalLists) (words : WordLists) (c : ℕ) (silent : SaysNothing lists words c) where
  same_class : class_in words c ≡ (canonical_of lists).class c
  same_class = ap (class_of_word c) silent.1 ∙ ap (class_of_word c) (sym silent.2) ∙ sym (class_is lists c)

  pub silent_word : OffendsWord lists words c → ⊥
  silent_word bad =
      both_ways _ bad
      (and_from (words.has_word c && is_word c (words.word c)) (class_in words c == (canonical_of lists).class c)
      (and_from (words.has_word c) (is_word c (words.word c)) silent.0 (ap (is_word c) silent.1 ∙ zero_form c))
      (eq-eqb (class_in words c) ((canonical_of lists).class c) same_class))

  pub silent_list : IsScalar c → OffendsWordList lists words c → ⊥
  silent_list scalar = plain_good lists words c scalar silent.1 silent.2

  pub silent_fixed : OffendsFixed words c → ⊥
  silent_fixed bad = none-some bad.0 (sym silent.3 ∙ bad.1)

-- nor is a syllable with the word of syllables
harmless_word : (lists : CanonicalLists) (words : WordLists) (c : ℕ) → IsHarmless lists words c → OffendsWord lists words c → ⊥
harmless_word lists words c (inl silent) = silent_word lists words c silent
harmless_word lists words c (inr syllable) = syllable_word lists words c syllable

harmless_list : (lists : CanonicalLists) (words : WordLists) (c : ℕ) → IsHarmless lists words c → IsScalar c → OffendsWordList lists words c → ⊥
harmless_list lists words c (inl silent) scalar = silent_list lists words c silent scalar
harmless_list lists words c (inr syllable) scalar = syllable_list lists words c syllable

harmless_fixed : (lists : CanonicalLists) (words : WordLists) (c : ℕ) → IsHarmless lists words c → OffendsFixed words c → ⊥
harmless_fixed lists words c (inl silent) = silent_fixed lists words c silent
harmless_fixed lists words c (inr syllable) = syllable_fixed lists words c syllable

-- ---- One code point more

none_more : (Offends : ℕ → Type 0) (code : ℕ) → NoneOffendsBelow Offends code → (IsScalar code → Offends code → ⊥) → NoneOffendsBelow Offends (code + 1)
none_more Offends code none here d scalar lt bad =
    ⊎_elim (λ before. none d scalar before bad)
    (λ ge. let at : d ≡ code = omega (arith, lt, ge) in here (subst IsScalar at scalar) (subst Offends at bad))
    (cases_lt d code)

least_same : (Offends : ℕ → Type 0) (code : ℕ) (found : Option ℕ) → IsLeastBelow Offends code found → (IsScalar code → Offends code → ⊥)
    → IsLeastBelow Offends (code + 1) found
least_same Offends code None none here = none_more Offends code none here
least_same Offends code (Some d) least here = least

-- the least one that is found, kept or found here
pub record IsNextOf (found : Option ℕ) (c : ℕ) (good : Bool) (next : Option ℕ) : Type 0 where
  pub kept : (d : ℕ) → found ≡ Some d → next ≡ Some d
  pub none : found ≡ None → good ≡ true → next ≡ None
  pub some : found ≡ None → good ≡ false → next ≡ Some c

pub least_next : (Offends : ℕ → Type 0) (code : ℕ) (found next : Option ℕ) (good : Bool) → IsLeastBelow Offends code found → IsScalar code
    → (good ≡ true → Offends code → ⊥) → (good ≡ false → Offends code) → IsNextOf found code good next → IsLeastBelow Offends (code + 1) next
least_next Offends code (Some d) next good least scalar sound faulty is = subst (IsLeastBelow Offends (code + 1)) (sym (is.kept d refl)) least
least_next Offends code None next true none scalar sound faulty is =
    subst (IsLeastBelow Offends (code + 1)) (sym (is.none refl refl)) (none_more Offends code none (λ _. sound refl))
least_next Offends code None next false none scalar sound faulty is = subst (IsLeastBelow Offends (code + 1)) (sym (is.some refl refl)) (scalar, faulty refl, none)

-- none is found of all
all_of_none : (Offends : ℕ → Type 0) (found : Option ℕ) → found ≡ None → IsLeastBelow Offends 0x110000 found → NoneOffends Offends
all_of_none Offends None e none c scalar bad = none c scalar (scalar_below c scalar) bad
all_of_none Offends (Some d) e least c scalar bad = none-some d (sym e)

-- further code points that don't offend
none_further : (Offends : ℕ → Type 0) (code end : ℕ) → NoneOffendsBelow Offends code → ((d : ℕ) → code ≤ d → d < end → IsScalar d → Offends d → ⊥) → NoneOffendsBelow Offends end
none_further Offends code end none more d scalar lt bad =
    ⊎_elim (λ before. none d scalar before bad) (λ ge. more d ge lt scalar bad) (cases_lt d code)

least_further : (Offends : ℕ → Type 0) (code end : ℕ) (found : Option ℕ) → IsLeastBelow Offends code found
    → ((d : ℕ) → code ≤ d → d < end → IsScalar d → Offends d → ⊥) → IsLeastBelow Offends end found
least_further Offends code end None none more = none_further Offends code end none more
least_further Offends code end (Some d) least more = least

module _ (lists : CanonicalLists) (words : WordLists) (code : ℕ) (faults : Faults) (below : AreFaultsBelow lists words code faults) where
  -- a code point that is no character
  pub faults_same : (IsScalar code → ⊥) → AreFaultsBelow lists words (code + 1) faults
  faults_same other = record {
    values = none_more (OffendsWord lists words) code below.values (λ scalar. absurd (other scalar));
    full_lists = least_same (OffendsWordList lists words) code faults.full_list below.full_lists (λ scalar. absurd (other scalar));
    built_ins = least_same (OffendsFixed words) code faults.built_in below.built_ins (λ scalar. absurd (other scalar));
  }

  -- one that is looked at, whose word is good
  pub faults_next : (next : Faults) (good fixed : Bool) → IsScalar code → (OffendsWord lists words code → ⊥)
      → (good ≡ true → OffendsWordList lists words code → ⊥) → (good ≡ false → OffendsWordList lists words code)
      → (fixed ≡ true → OffendsFixed words code → ⊥) → (fixed ≡ false → OffendsFixed words code)
      → IsNextOf faults.full_list code good next.full_list → IsNextOf faults.built_in code fixed next.built_in → AreFaultsBelow lists words (code + 1) next
  faults_next next good fixed scalar word sound faulty kept broken list built_in = record {
    values = none_more (OffendsWord lists words) code below.values (λ _. word);
    full_lists = least_next (OffendsWordList lists words) code faults.full_list next.full_list good below.full_lists scalar sound faulty list;
    built_ins = least_next (OffendsFixed words) code faults.built_in next.built_in fixed below.built_ins scalar kept broken built_in;
  }

  -- code points one after another with which nothing is wrong
  pub faults_further : (end : ℕ) → AreHarmless lists words code end → AreFaultsBelow lists words end faults
  faults_further end harmless = record {
    values = none_further (OffendsWord lists words) code end below.values (λ d ge lt scalar. harmless_word lists words d (harmless d ge lt));
    full_lists = least_further (OffendsWordList lists words) code end faults.full_list below.full_lists (λ d ge lt scalar. harmless_list lists words d (harmless d ge lt) scalar);
    built_ins = least_further (OffendsFixed words) code end faults.built_in below.built_ins (λ d ge lt scalar. harmless_fixed lists words d (harmless d ge lt));
  }

-- the faults of all code points
module _ (lists : CanonicalLists) (words : WordLists) (faults : Faults) (below : AreFaultsBelow lists words 0x110000 faults) where
  pub all_values : NoneOffends (OffendsWord lists words)
  all_values c scalar = below.values c scalar (scalar_below c scalar)

  pub all_full_lists : faults.full_list ≡ None → NoneOffends (OffendsWordList lists words)
  all_full_lists e = all_of_none (OffendsWordList lists words) faults.full_list e below.full_lists

  pub all_built_ins : faults.built_in ≡ None → NoneOffends (OffendsFixed words)
  all_built_ins e = all_of_none (OffendsFixed words) faults.built_in e below.built_ins

-- one is found
pub least_of_some : (Offends : ℕ → Type 0) (code d : ℕ) (found : Option ℕ) → found ≡ Some d → IsLeastBelow Offends code found → IsLeastOffender Offends d
least_of_some Offends code d found e least = subst (IsLeastBelow Offends code) e least
