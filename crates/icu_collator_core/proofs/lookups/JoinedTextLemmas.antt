-- A text that all marks have met: its word, and what is left in the list.
use Rattle.std.proofs.Common.{◌≡◌, ℕ, ◌+◌, ◌-◌, ◌<◌, ◌≤◌, ◌==◌, true, not, List, [], ◌∷◌, ◌++◌, length, take, drop, sym, ◌∙◌, ap, subst, arith, append-nil}
use Rattle.std.specs.Prelude.{slice_index}
use Rattle.std.specs.List.{list_all}
use Rattle.std.proofs.lemmas.Bool.{eq-eqb}
use Rattle.std.proofs.lemmas.List.{drop-drop, drop-map, drop-take, drop_all, take-append-drop, take-map}
use Rattle.std.proofs.lemmas.List.Folds.{list_all-map}
use Rattle.icu_normalizer_core.specs.Canonical.{Canonical}
use Rattle.icu_collator_core.specs.declared.reading.joining.OpenText.{OpenText}
use Rattle.icu_collator_core.specs.AlikeLists.{AreAlike}
use Rattle.icu_collator_core.specs.Elements.{Joining, Placed, characters_of, joining, placed, placed_behind}
use Rattle.icu_collator_core.specs.JoinedTexts.{HasJoined, HaveMoved, IsFoundAs, IsWordOfText}
use Rattle.icu_collator_core.specs.MovedMarks.{KnowNoMarksBefore}
use Rattle.icu_collator_core.specs.ReadTexts.{characters_before}
use Rattle.icu_collator_core.specs.TableMeaning.{TableWord}
use Rattle.icu_collator_core.specs.Weights.{Weights}
use Rattle.icu_collator_core.proofs.lookups.MovedLemmas.{is_mark}
use Rattle.icu_collator_core.proofs.lookups.OpenTextLemmas.{first_left, joining_ends, placed_next}
use Rattle.icu_collator_core.proofs.lookups.PlacedLemmas.{characters_placed, placed_drop}
use Rattle.icu_collator_core.proofs.readings.AlikeLemmas.{append_alike}
use Rattle.icu_collator_core.proofs.readings.MovedMarkLemmas.{marks_alike, moved_alike}

-- after the last character nothing is left
pub placed_end : (index : ℕ) (old : List ℕ) → index ≡ length old → drop index (placed old) ≡ []
unfolding placed_behind
placed_end index old e =
    placed_drop index old (omega (arith, e)) ∙ ap (placed_behind (characters_before old index)) (drop_all index old (omega (arith, e)))

-- the characters of a part of a list
pub part_characters : (from index : ℕ) (list : List ℕ) → from ≤ index → characters_of (take (index - from) (drop from (placed list))) ≡ drop from (take index list)
part_characters from index list order =
    let sum : from + (index - from) ≡ index = omega (arith, order) in
    sym (take-map (λ p. p.character) (index - from) (drop from (placed list)))
    ∙ ap (take (index - from)) (sym (drop-map (λ p. p.character) from (placed list)) ∙ ap (drop from) (characters_placed [] list))
    ∙ sym (drop-take from (index - from) list)
    ∙ ap (λ n. drop from (take n list)) sum

module _ (canonical : Canonical) (weights : Weights) (entry : TableWord) (c : ℕ) (suffix : List ℕ) (start : ℕ) (old : List ℕ) (index : ℕ) (new : List ℕ) (text : OpenText)
    (at : HaveMoved canonical.class start old index new text) (h : HasJoined canonical weights entry c suffix start old index new text) where
  -- no mark is left that could join
  abbrev ended : Joining
  ended = record { text = c ∷ h.joined; left = h.between ++ drop index (placed old) }

  ended_at_end : index ≡ length new → joining canonical weights (c ∷ h.joined) h.between (drop index (placed old)) ≡ ended
  unfolding joining
  ended_at_end e =
      let none : drop index (placed old) ≡ [] = placed_end index old (e ∙ at.same_length) in
      let Is : List Placed → Type 0 = λ ps. joining canonical weights (c ∷ h.joined) h.between ps ≡ record { text = c ∷ h.joined; left = h.between ++ ps } in
      let nothing : Is [] = ap (λ ps. record { text = c ∷ h.joined; left = ps }) (sym (append-nil h.between)) in
      subst Is (sym none) nothing

  ended_at_starter : index < length new → canonical.class (slice_index new index) ≡ 0 → joining canonical weights (c ∷ h.joined) h.between (drop index (placed old)) ≡ ended
  ended_at_starter inside starter =
      let m = slice_index new index in
      let within : index ≤ length old = let same = at.same_length in omega (arith, same, inside) in
      let next : drop index (placed old) ≡ record { character = m; before = characters_before old index } ∷ drop (index + 1) (placed old) =
      placed_next index m old within (first_left canonical.class start old index new text at inside) in
      let Is : List Placed → Type 0 = λ ps. joining canonical weights (c ∷ h.joined) h.between ps ≡ record { text = c ∷ h.joined; left = h.between ++ ps } in
      subst Is (sym next)
      (joining_ends canonical weights (c ∷ h.joined) h.between (record { character = m; before = characters_before old index }) (drop (index + 1) (placed old))
      (eq-eqb (canonical.class m) 0 starter))

  left_alike : KnowNoMarksBefore canonical.class weights → AreAlike weights (h.between ++ drop index (placed old)) (drop text.next (placed new))
  left_alike known =
      let order = at.within in
      let part = take (index - text.next) (drop text.next (placed new)) in
      let sum : text.next + (index - text.next) ≡ index = omega (arith, order) in
      let parts : part ++ drop index (placed new) ≡ drop text.next (placed new) =
      ap (λ ps. part ++ ps) (sym (drop-drop (index - text.next) text.next (placed new) ∙ ap (λ n. drop n (placed new)) sum))
      ∙ take-append-drop (index - text.next) (drop text.next (placed new)) in
      let marks : list_all (λ p. not (canonical.class p.character == 0)) h.between ≡ true =
      sym (list_all-map (is_mark canonical.class) (λ p. p.character) h.between) ∙ ap (list_all (is_mark canonical.class)) h.left ∙ at.marks in
      subst (AreAlike weights (h.between ++ drop index (placed old))) parts
      (append_alike weights h.between part (drop index (placed old)) (drop index (placed new))
      (marks_alike canonical.class weights known h.between part marks (h.left ∙ sym (part_characters text.next index new order)))
      (moved_alike canonical.class weights known index old new at.moved (sym at.rest)))

  abbrev found : Joining
  found = joining canonical weights (c ∷ suffix) [] (drop start (placed old))

  found_is : joining canonical weights (c ∷ h.joined) h.between (drop index (placed old)) ≡ ended
      → IsFoundAs canonical weights entry.pools c found (record { word = text.word; next = text.next }) new
  found_is e =
      let is : ended ≡ found = sym e ∙ h.same in
      record {
        elements = subst (λ (j : Joining). IsWordOfText weights entry.pools c j.text text.word) is h.said;
        left = λ known. subst (λ (j : Joining). AreAlike weights j.left (drop text.next (placed new))) is (left_alike known);
      }

  pub found_at_end : index ≡ length new → IsFoundAs canonical weights entry.pools c found (record { word = text.word; next = text.next }) new
  found_at_end e = found_is (ended_at_end e)

  pub found_at_starter : index < length new → canonical.class (slice_index new index) ≡ 0
      → IsFoundAs canonical weights entry.pools c found (record { word = text.word; next = text.next }) new
  found_at_starter inside starter = found_is (ended_at_starter inside starter)
