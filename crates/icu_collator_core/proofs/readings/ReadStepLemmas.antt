-- A reading of a list at an index, and what it leaves to be read.
use Rattle.std.proofs.Common.{◌≡◌, ℕ, suc, ◌+◌, ◌<◌, ◌≤◌, ◌==◌, ◌||◌, Bool, true, false, List, [], ◌∷◌, ◌++◌, length, drop, refl, sym, ◌∙◌, ap, subst, arith, append_assoc, append-nil, Option, Some, None}
use Rattle.std.specs.Option.{is_some, unwrap_or}
use Rattle.std.proofs.lemmas.Bool.{false≢true, true≢false}
use Rattle.std.specs.Prelude.{slice_index}
use Rattle.std.proofs.lemmas.List.{drop_more}
use Rattle.icu_normalizer_core.specs.Canonical.{Canonical}
use Rattle.icu_collator_types.specs.declared.elements.Element.{Element}
use Rattle.icu_collator_core.specs.AlikeLists.{AreAlike}
use Rattle.icu_collator_core.specs.Defaults.{default_elements}
use Rattle.icu_collator_core.specs.ElementLists.{AddsElements, unpacked}
use Rattle.icu_collator_core.specs.Elements.{Placed, Reading, elements_within, is_before_accent, placed, prefix_match, reading, text_match, text_reading}
use Rattle.icu_collator_core.specs.JoinedTexts.{IsFoundAs}
use Rattle.icu_collator_core.specs.MovedMarks.{KnowNoMarksBefore}
use Rattle.icu_collator_core.specs.Pools.{Pools, elements_of_word}
use Rattle.icu_collator_core.specs.ReadSteps.{IsRead, IsReadAs, elements_from, placed_at, reading_in_context, weights_for}
use Rattle.icu_collator_core.specs.ReadWords.{AreSaidBy}
use Rattle.icu_collator_core.specs.TableMeaning.{TableWord}
use Rattle.icu_collator_core.specs.Weights.{Weights}
use Rattle.icu_collator_core.proofs.lookups.JoinedTextLemmas.{placed_end}
use Rattle.icu_collator_core.proofs.lookups.OpenTextLemmas.{placed_next}
use Rattle.icu_collator_core.proofs.readings.AlikeLemmas.{elements_alike}
use Rattle.icu_collator_core.proofs.readings.CountLemmas.{any_count, reading_shrinks}

pub alike_self : (weights : Weights) (ps : List Placed) → AreAlike weights ps ps
alike_self weights [] = tt
alike_self weights (p ∷ ps) = (refl, refl, alike_self weights ps)

alike_count : (weights : Weights) (ps qs : List Placed) → AreAlike weights ps qs → length ps ≡ length qs
alike_count weights [] [] h = refl
alike_count weights [] (q ∷ qs) h = absurd h
alike_count weights (p ∷ ps) [] h = absurd h
alike_count weights (p ∷ ps) (q ∷ qs) h = ap (λ n. suc n) (alike_count weights ps qs h.2)

first_then : (canonical : Canonical) (weights : Weights) (numeric : Bool) (p : Placed) (ps : List Placed)
    → elements_within (suc (length ps)) canonical weights numeric (p ∷ ps)
    ≡ (reading canonical weights numeric p ps).elements ++ elements_within (length ps) canonical weights numeric (reading canonical weights numeric p ps).left
unfolding elements_within
first_then canonical weights numeric p ps = refl

nothing_more : (canonical : Canonical) (weights : Weights) (numeric : Bool) → elements_within 0 canonical weights numeric [] ≡ []
unfolding elements_within
nothing_more canonical weights numeric = refl

-- after the last character nothing is left to be read
pub nothing_from : (canonical : Canonical) (weights : Weights) (numeric : Bool) (list : List ℕ) (index : ℕ) → drop index (placed list) ≡ []
    → elements_from canonical weights numeric list index ≡ []
nothing_from canonical weights numeric list index e =
    ap (λ (ps : List Placed). elements_within (length ps) canonical weights numeric ps) e ∙ nothing_more canonical weights numeric

-- what the reading at an index gives stands before what is left
pub read_from : (canonical : Canonical) (weights : Weights) (numeric : Bool) (old : List ℕ) (index c : ℕ) (ready new : List ℕ) (next : ℕ) (after : List ℕ) (first : Reading)
    → index ≤ length old → drop index old ≡ c ∷ drop (index + 1) old → KnowNoMarksBefore canonical.class weights
    → reading canonical weights numeric (placed_at old index c) (drop (index + 1) (placed old)) ≡ first
    → IsReadAs canonical weights first ready new next after
    → IsRead canonical weights numeric old index (unpacked ready) new next (unpacked after)
read_from canonical weights numeric old index c ready new next after first inside here known is h =
    let p = placed_at old index c in
    let ps = drop (index + 1) (placed old) in
    let qs = drop next (placed new) in
    let alike : AreAlike weights first.left qs = h.left known in
    let fewer : length first.left ≤ length ps = subst (λ (r : Reading). length r.left ≤ length ps) is (reading_shrinks canonical weights numeric p ps) in
    let same = alike_count weights first.left qs alike in
    let whole : elements_from canonical weights numeric old index ≡ first.elements ++ elements_from canonical weights numeric new next =
    ap (λ (l : List Placed). elements_within (length l) canonical weights numeric l) (placed_next index c old inside here)
    ∙ first_then canonical weights numeric p ps
    ∙ ap (λ (r : Reading). r.elements ++ elements_within (length ps) canonical weights numeric r.left) is
    ∙ ap (λ (es : List Element). first.elements ++ es)
    (elements_alike canonical weights numeric (length ps) first.left qs alike
    ∙ any_count canonical weights numeric (length ps) (length qs) qs (omega (arith, fewer, same)) (omega arith)) in
    ap (λ (es : List Element). es ++ elements_from canonical weights numeric new next) h.elements
    ∙ append_assoc (unpacked ready) first.elements (elements_from canonical weights numeric new next)
    ∙ ap (λ (es : List Element). unpacked ready ++ es) (sym whole)

-- ---- The character at an index

pub left_from : (list : List ℕ) (index c : ℕ) → index < length list → c ≡ slice_index list index → drop index list ≡ c ∷ drop (index + 1) list
left_from list index c inside is = drop_more list index 0 inside ∙ ap (λ d. d ∷ drop (index + 1) list) (sym is)

pub first_left_is : (list : List ℕ) (index c : ℕ) → index < length list → drop index list ≡ c ∷ drop (index + 1) list → slice_index list index ≡ c
first_left_is list index c inside here = ap (λ (l : List ℕ). slice_index l 0) (sym (drop_more list index 0 inside) ∙ here)

pub accent_at : (list : List ℕ) (index c : ℕ) → index < length list → c ≡ slice_index list index
    → ((c == 0x300) || (c == 0x301) || (c == 0x303)) ≡ is_before_accent (drop index (placed list))
unfolding is_before_accent
accent_at list index c inside is =
    ap is_before_accent (sym (placed_next index c list (omega (arith, inside)) (left_from list index c inside is)))

pub no_accent_at : (list : List ℕ) (index : ℕ) → index ≡ length list → false ≡ is_before_accent (drop index (placed list))
unfolding is_before_accent
no_accent_at list index e = ap is_before_accent (sym (placed_end index list e))

-- ---- What weights with another lead byte of numbers say

pub said_for : (numeric : Option ℕ) (weights : Weights) (entry : TableWord) (c : ℕ) → AreSaidBy weights entry c → AreSaidBy (weights_for numeric weights) entry c
said_for numeric weights entry c said = record { recorded = said.recorded; digit = said.digit; ranged = said.ranged }

pub no_marks_for : (numeric : Option ℕ) (weights : Weights) (class : ℕ → ℕ) → KnowNoMarksBefore class weights → KnowNoMarksBefore class (weights_for numeric weights)
no_marks_for numeric weights class known = record { at = known.at }

-- ---- The cases of a text

module _ (canonical : Canonical) (weights : Weights) (pools : Pools) (c : ℕ) (ps : List Placed) (ready list : List ℕ) (next : ℕ) (after : List ℕ) where
  pub match_spelled : (word : ℕ) → IsFoundAs canonical weights pools c (text_match canonical weights ps) (record { word = Some word; next = next }) list
      → AddsElements ready (unwrap_or (elements_of_word pools word) (default_elements weights c)) after
      → IsReadAs canonical weights (text_reading canonical weights c ps) ready list next after
  unfolding text_reading
  match_spelled word found said =
      record {
        elements = subst (λ o. AddsElements ready (unwrap_or o (default_elements weights c)) after) (sym found.elements) said;
        left = found.left;
      }

  pub match_alone : IsFoundAs canonical weights pools c (text_match canonical weights ps) (record { word = None; next = next }) list
      → AddsElements ready (unwrap_or (weights.recorded [] (c ∷ [])) (default_elements weights c)) after
      → IsReadAs canonical weights (text_reading canonical weights c ps) ready list next after
  unfolding text_reading
  match_alone found said =
      record {
        elements = subst (λ text. AddsElements ready (unwrap_or (weights.recorded [] text) (default_elements weights c)) after) (sym found.elements) said;
        left = found.left;
      }

module _ (canonical : Canonical) (weights : Weights) (old : List ℕ) (index c : ℕ) where
  abbrev here : Placed
  here = placed_at old index c

  abbrev behind : List Placed
  behind = drop (index + 1) (placed old)

  -- after a recorded prefix
  pub prefixed_read : (ready after : List ℕ) → true ≡ is_some (prefix_match weights here)
      → AddsElements ready (unwrap_or (prefix_match weights here) []) after
      → IsReadAs canonical weights (reading_in_context canonical weights here behind) ready old (index + 1) after
  prefixed_read ready after is added = by_match (prefix_match weights here) refl is added
    where
      by_match : (o : Option (List Element)) → prefix_match weights here ≡ o → true ≡ is_some o → AddsElements ready (unwrap_or o []) after
          → IsReadAs canonical weights (reading_in_context canonical weights here behind) ready old (index + 1) after
      by_match (Some es) e some h = rw (e, reading_in_context) (record { elements = h; left = λ _. alike_self weights behind })
      by_match None e some h = absurd (true≢false some)

  -- after none
  pub unprefixed_read : (ready between list : List ℕ) (next : ℕ) (after : List ℕ) → false ≡ is_some (prefix_match weights here)
      → AddsElements ready (unwrap_or (prefix_match weights here) []) between
      → index ≤ length old → drop index old ≡ c ∷ drop (index + 1) old
      → IsReadAs canonical weights (text_reading canonical weights c (drop index (placed old))) between list next after
      → IsReadAs canonical weights (reading_in_context canonical weights here behind) ready list next after
  unprefixed_read ready between list next after is added inside first h = by_match (prefix_match weights here) refl is added
    where
      same : text_reading canonical weights c (drop index (placed old)) ≡ text_reading canonical weights c (here ∷ behind)
      same = ap (text_reading canonical weights c) (placed_next index c old inside first)

      by_match : (o : Option (List Element)) → prefix_match weights here ≡ o → false ≡ is_some o → AddsElements ready (unwrap_or o []) between
          → IsReadAs canonical weights (reading_in_context canonical weights here behind) ready list next after
      by_match (Some es) e some k = absurd (false≢true some)
      by_match None e some k =
          let was : unpacked between ≡ unpacked ready = k ∙ append-nil (unpacked ready) in
          let read : IsReadAs canonical weights (text_reading canonical weights c (here ∷ behind)) ready list next after =
          subst (λ (r : Reading). IsReadAs canonical weights r ready list next after) same
          (record { elements = h.elements ∙ ap (λ (es : List Element). es ++ (text_reading canonical weights c (drop index (placed old))).elements) was; left = h.left }) in
          rw (e, reading_in_context) read
