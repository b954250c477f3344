-- What a text that is being read has left, by its list and what is ready.
use Rattle.std.proofs.Common.{◌≡◌, ℕ, suc, ◌+◌, ◌<◌, ◌≤◌, ◌==◌, Bool, true, false, List, [], ◌∷◌, ◌++◌, length, take, drop, reverse, refl, sym, ◌∙◌, ap, append_assoc, arith, inl, inr, None}
use Rattle.std.specs.Prelude.{slice_index}
use Rattle.std.proofs.lemmas.Bool.{cases_lt}
use lib.Utf8.{scalars}
use Rattle.std.proofs.lemmas.List.{drop-map, drop_all, drop_more}
use Rattle.icu_normalizer_core.specs.Canonical.{Canonical}
use Rattle.icu_collator_types.specs.declared.elements.Element.{Element}
use Rattle.icu_collator_core.specs.ElementLists.{unpacked}
use Rattle.icu_collator_core.specs.Elements.{characters_of, elements_of_list, elements_within, longest_prefix, placed, placed_behind}
use Rattle.icu_collator_core.specs.Pools.{element_of}
use Rattle.icu_collator_core.specs.PlainWords.{IsReadAlone}
use Rattle.icu_collator_core.specs.Defaults.{special_primary}
use Rattle.icu_collator_core.specs.MovedMarks.{KnowNoMarksBefore}
use Rattle.icu_collator_core.specs.ReadSteps.{IsRead, elements_from, placed_at}
use Rattle.icu_collator_core.specs.ReadTexts.{characters_before}
use Rattle.icu_collator_core.specs.Weights.{Weights}
use Rattle.icu_collator_core.proofs.lookups.JoinedTextLemmas.{placed_end}
use Rattle.icu_collator_core.proofs.lookups.FoundTextLemmas.{characters_left}
use Rattle.icu_collator_core.proofs.lookups.MatchLemmas.{scalars_front}
use Rattle.icu_collator_core.proofs.lookups.OpenTextLemmas.{scalars_behind}
use Rattle.icu_collator_core.proofs.lookups.PackedLemmas.{unpacked_more}
use Rattle.icu_collator_core.proofs.lookups.PrefixLemmas.{scalars_back}
use Rattle.icu_collator_core.proofs.readings.AloneReadLemmas.{alone_read}
use Rattle.icu_collator_core.proofs.readings.ReadStepLemmas.{alike_self, left_from, nothing_from, read_from}

pub below : (n m : ℕ) → n ≤ m → (n ≡ m → ⊥) → n < m
below n m le differ = elim (cases_lt n m) [ inl lt ↦ lt | inr past ↦ absurd (differ (omega (arith, le, past))) ]

placed_count : (before list : List ℕ) → length (placed_behind before list) ≡ length list
unfolding placed_behind
placed_count before [] = refl
placed_count before (c ∷ cs) = ap (λ n. suc n) (placed_count (take longest_prefix (c ∷ before)) cs)

pub all_given : (ready : List ℕ) (given : ℕ) → given ≡ length ready → drop given (unpacked ready) ≡ []
all_given ready given e = drop-map element_of given ready ∙ ap (λ items. unpacked items) (drop_all given ready (omega (arith, e)))

-- the element that is given, and the others that are ready
pub given_then : (ready : List ℕ) (given bits : ℕ) (behind : List Element) → given < length ready → bits ≡ slice_index ready given
    → drop given (unpacked ready) ++ behind ≡ element_of bits ∷ (drop (given + 1) (unpacked ready) ++ behind)
given_then ready given bits behind inside is =
    ap (λ (es : List Element). es ++ behind)
    (drop-map element_of given ready
    ∙ ap (λ items. unpacked items) (drop_more ready given 0 inside ∙ ap (λ b. b ∷ drop (given + 1) ready) (sym is))
    ∙ ap (λ (es : List Element). element_of bits ∷ es) (sym (drop-map element_of (given + 1) ready)))

module _ (canonical : Canonical) (weights : Weights) (numeric : Bool) where
  pub nothing_left : (ready : List ℕ) (given : ℕ) (list : List ℕ) (index : ℕ) → given ≡ length ready → index ≡ length list
      → drop given (unpacked ready) ++ elements_from canonical weights numeric list index ≡ []
  nothing_left ready given list index e f =
      ap (λ (es : List Element). es ++ elements_from canonical weights numeric list index) (all_given ready given e)
      ∙ nothing_from canonical weights numeric list index (placed_end index list f)

  -- a list of which nothing was read
  pub whole_left : (ready list : List ℕ) → ready ≡ []
      → drop 0 (unpacked ready) ++ elements_from canonical weights numeric list 0 ≡ elements_of_list canonical weights numeric list
  whole_left ready list e =
      ap (λ items. unpacked items ++ elements_from canonical weights numeric list 0) e
      ∙ ap (λ n. elements_within n canonical weights numeric (placed list)) (placed_count [] list)

  -- what was read stands in front of what is left
  pub read_left : (before : List ℕ) (given : ℕ) (ready old : List ℕ) (index : ℕ) (new : List ℕ) (next : ℕ) (after : List ℕ) → given ≡ length before → ready ≡ []
      → IsRead canonical weights numeric old index (unpacked ready) new next (unpacked after)
      → drop 0 (unpacked after) ++ elements_from canonical weights numeric new next
      ≡ drop given (unpacked before) ++ elements_from canonical weights numeric old index
  read_left before given ready old index new next after e none h =
      h
      ∙ ap (λ items. unpacked items ++ elements_from canonical weights numeric old index) none
      ∙ ap (λ (es : List Element). es ++ elements_from canonical weights numeric old index) (sym (all_given before given e))

  -- a character that is read alone gives its element, and is read
  pub alone_left : (list : List ℕ) (index c bits : ℕ) → index < length list → c ≡ slice_index list index → scalars list ≡ true
      → KnowNoMarksBefore canonical.class weights → IsReadAlone weights c bits → special_primary c ≡ None → (c == 0x307) ≡ false
      → elements_from canonical weights numeric list index ≡ element_of bits ∷ elements_from canonical weights numeric list (index + 1)
  alone_left list index c bits inside is ok known alone ordinary undotted =
      let here = left_from list index c inside is in
      let p = placed_at list index c in
      let ps = drop (index + 1) (placed list) in
      let before : scalars (characters_before list index) ≡ true = scalars_front longest_prefix (reverse (take index list)) (scalars_back (take index list) (scalars_front index list ok)) in
      let behind : scalars (characters_of ps) ≡ true = ap scalars (characters_left (index + 1) list) ∙ scalars_behind (index + 1) list ok in
      sym
      (read_from canonical weights numeric list index c [] list (index + 1) (bits ∷ []) (record { elements = element_of bits ∷ []; left = ps }) (omega (arith, inside)) here known
      (alone_read canonical weights c bits alone numeric p ps refl before behind ordinary undotted)
      (record { elements = refl; left = λ _. alike_self weights ps }))

  -- a character that is read alone is read where its element is appended
  pub alone_is_read : (list : List ℕ) (index c bits : ℕ) (ready after : List ℕ) → after ≡ ready ++ bits ∷ []
      → index < length list → c ≡ slice_index list index → scalars list ≡ true
      → KnowNoMarksBefore canonical.class weights → IsReadAlone weights c bits → special_primary c ≡ None → (c == 0x307) ≡ false
      → IsRead canonical weights numeric list index (unpacked ready) list (index + 1) (unpacked after)
  alone_is_read list index c bits ready after e inside is ok known alone ordinary undotted =
      let behind = elements_from canonical weights numeric list (index + 1) in
      ap (λ (es : List Element). es ++ behind) (unpacked_more ready after bits e)
      ∙ append_assoc (unpacked ready) (element_of bits ∷ []) behind
      ∙ ap (λ (es : List Element). unpacked ready ++ es) (sym (alone_left list index c bits inside is ok known alone ordinary undotted))
