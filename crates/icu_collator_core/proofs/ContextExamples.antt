-- Characters of units, and the rules on what follows and before a character.
use Rattle.std.proofs.Common.{◌≡◌, ℕ, ℤ, Bool, true, false, cond, not, ◌||◌, ◌==◌, Some, None, List, [], ◌∷◌, refl, sym, subst, ◌∙◌}
use Rattle.std.specs.Bool.{IsTrue}
use Rattle.std.proofs.lemmas.Bool.{false_from_ne_true, false≢true, not_from_false, not_from_true}
use Rattle.std.proofs.lemmas.Option.{same_Some}
use Rattle.icu_char16trie.specs.UnitMaps.{MapsKey, at_node}
use Rattle.icu_normalizer_core.specs.Canonical.{Canonical}
use Rattle.icu_collator_core.specs.ContextFaults.{are_others}
use Rattle.icu_collator_core.specs.ContextRules.{KeysPass, SomeKeyPasses, characters_of_units, has_marks_last, is_prefix, is_recorded_by, is_suffix, has_flag}
use Rattle.icu_collator_core.specs.Defaults.{primary_element, special_primary}
use Rattle.icu_collator_core.specs.Pools.{suffix_word, unprefixed_word}
use Rattle.icu_collator_core.specs.TableMeaning.{TableWord, recorded_by}

-- two marks, and all else starters
few_marks : Canonical
few_marks = record {
  class = λ c. cond ((c == 0x300) || (c == 0x301)) 230 0;
  step = λ c. [];
  full = λ c. c ∷ [];
  pair = λ a b. None;
}

pair_of_halves : characters_of_units (0x61 ∷ 0xd834 ∷ 0xdd1e ∷ []) ≡ Some (0x61 ∷ 0x1d11e ∷ [])
unfolding characters_of_units
pair_of_halves = refl

lone_upper_half : characters_of_units (0xd834 ∷ 0x61 ∷ []) ≡ None
unfolding characters_of_units
lone_upper_half = refl

lone_lower_half : characters_of_units (0x61 ∷ 0xdd1e ∷ []) ≡ None
unfolding characters_of_units
lone_lower_half = refl

upper_half_at_the_end : characters_of_units (0xd834 ∷ []) ≡ None
unfolding characters_of_units
upper_half_at_the_end = refl

marks_at_the_end : has_marks_last few_marks (0x61 ∷ 0x62 ∷ 0x300 ∷ 0x301 ∷ []) ≡ true
unfolding has_marks_last few_marks
marks_at_the_end = refl

starter_after_mark : has_marks_last few_marks (0x61 ∷ 0x300 ∷ 0x62 ∷ []) ≡ false
unfolding has_marks_last few_marks
starter_after_mark = refl

three_before : is_prefix few_marks (λ c. None) (0x63 ∷ 0x62 ∷ 0x61 ∷ []) ≡ true
unfolding few_marks
three_before = refl

four_before : is_prefix few_marks (λ c. None) (0x64 ∷ 0x63 ∷ 0x62 ∷ 0x61 ∷ []) ≡ false
unfolding few_marks
four_before = refl

mark_before : is_prefix few_marks (λ c. None) (0x62 ∷ 0x300 ∷ []) ≡ false
unfolding few_marks
mark_before = refl

digit_before : is_prefix few_marks (λ c. cond (c == 0x31) (Some 1) None) (0x31 ∷ []) ≡ false
unfolding few_marks
digit_before = refl

every_begins_with_mark : has_flag 9 0x2c9 ≡ true
every_begins_with_mark = refl

-- ---- What it means that some key passes

-- a key that passes says so
some_is : (passes : List ℕ → Bool) (units key : List ℕ) (number : ℤ) (cs : List ℕ)
    → MapsKey units (at_node 0) key number → characters_of_units key ≡ Some cs → IsTrue (passes cs) → SomeKeyPasses passes units
some_is passes units key number cs maps spelled passed none =
    let w = none.1 key number maps in
    let same = same_Some w.0 cs (sym w.1 ∙ spelled) in
    false≢true (sym (not_from_true (passes cs) passed) ∙ subst (λ xs. IsTrue (not (passes xs))) same w.2)

-- where keys are whole characters and it isn't so, no key passes
none_is : (others passes : List ℕ → Bool) (units : List ℕ) → KeysPass others units → (SomeKeyPasses passes units → ⊥)
    → (key : List ℕ) (number : ℤ) (cs : List ℕ) → MapsKey units (at_node 0) key number → characters_of_units key ≡ Some cs → passes cs ≡ false
none_is others passes units whole none key number cs maps spelled =
    false_from_ne_true (passes cs) (λ passed. none (some_is passes units key number cs maps spelled passed))

-- and where no key passes, it isn't so
none_passes : (others passes : List ℕ → Bool) (units : List ℕ) → KeysPass others units
    → ((key : List ℕ) (number : ℤ) (cs : List ℕ) → MapsKey units (at_node 0) key number → characters_of_units key ≡ Some cs → passes cs ≡ false)
    → SomeKeyPasses passes units → ⊥
none_passes others passes units whole none some =
    some (
      whole.0,
      λ key number maps.
          let w = whole.1 key number maps in
          (w.0, w.1, not_from_false (passes w.0) (none key number w.0 maps w.1)),
    )

-- ---- Suffixes, with few_marks, by a word without contexts

-- the word of no element, and no lists
no_lists : TableWord
no_lists = record { word = 0; pools = record { ces = []; ce32s = []; contexts = [] } }

mark_behind : is_suffix few_marks (is_recorded_by no_lists) 0x61 (0x300 ∷ []) ≡ true
unfolding few_marks no_lists has_marks_last
mark_behind = refl

shorter_not_recorded : is_suffix few_marks (is_recorded_by no_lists) 0x61 (0x62 ∷ 0x300 ∷ []) ≡ false
unfolding few_marks no_lists has_marks_last recorded_by suffix_word unprefixed_word
shorter_not_recorded = refl

eight_behind : is_suffix few_marks (is_recorded_by no_lists) 0x61 (0x62 ∷ 0x62 ∷ 0x62 ∷ 0x62 ∷ 0x62 ∷ 0x62 ∷ 0x62 ∷ 0x62 ∷ []) ≡ false
unfolding few_marks no_lists
eight_behind = refl

own_element_is_no_record : are_others 0xffff (Some (primary_element 0xffff0000 ∷ [])) ≡ false
unfolding special_primary
own_element_is_no_record = refl

no_element_is_a_record : are_others 0x61 (Some []) ≡ true
no_element_is_a_record = refl
