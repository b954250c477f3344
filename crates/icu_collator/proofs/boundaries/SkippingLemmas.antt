-- Texts that have in common, after a common front, three characters from which reading may go on compare as they do without
-- the front.
use Rattle.std.proofs.Common.{◌≡◌, ℕ, suc, ◌≤◌, Bool, true, false, List, [], ◌∷◌, ◌++◌, length, take, refl, sym, ap, ◌∙◌, arith, length-append}
use Rattle.std.specs.List.{AllByRecursion}
use Rattle.std.specs.Prelude.{All}
use Rattle.std.specs.Char.{IsScalar}
use lib.Utf8.{scalars}
use Rattle.icu_normalizer_core.specs.Canonical.{Canonical, IsDecomposing, decomposed, marks_in_order}
use Rattle.icu_normalizer_core.proofs.decomposed_lists.ScalarLemmas.{decomposed_characters, scalars_parts}
use Rattle.icu_collator_types.specs.declared.elements.Element.{Element}
use Rattle.icu_collator_types.specs.declared.options.ResolvedCollatorOptions.{ResolvedCollatorOptions}
use Rattle.icu_collator_types.specs.Options.{is_numeric}
use Rattle.icu_collator_core.specs.Collation.{Collation}
use Rattle.icu_collator_core.specs.PlainWords.{IsUnprefixed}
use Rattle.icu_collator_core.specs.Weights.{Weights}
use Rattle.icu_collator_core.specs.Elements.{Placed, characters_of, elements_of_list, elements_within, placed_behind}
use Rattle.icu_collator_core.proofs.readings.AlikeLemmas.{elements_alike}
use Rattle.icu_collator_core.proofs.readings.CountLemmas.{any_count}
use Rattle.icu_collator_core.specs.Boundaries.{IsApart, IsBoundary, after}
use Rattle.icu_collator.specs.CommonBoundaries.{CountApart}
use Rattle.icu_collator.specs.Boundaries.{GoesOn}
use Rattle.icu_collator.specs.Levels.{elements_of_text}
use Rattle.icu_collator.specs.Order.{collation_order}
use Rattle.icu_collator.proofs.boundaries.BehindBoundaryLemmas.{boundary_unprefixed, front_alike}
use Rattle.icu_collator.proofs.boundaries.DecomposedAtLemmas.{behind_first, decomposed_three, three_behind, three_full, three_full_all, three_full_count}
use Rattle.icu_collator.proofs.boundaries.LevelFrontLemmas.{levels_behind}
use Rattle.icu_collator_core.proofs.readings.SplitAtBoundaryLemmas.{after_scalars, split_at_boundary}
use Rattle.icu_collator_core.proofs.lookups.PlacedLemmas.{characters_placed, length_placed, placed_append}

-- the elements of a list that goes on at a boundary
pub list_from : (canonical : Canonical) (weights : Weights) (numeric : Bool) (xs : List ℕ) (d : ℕ) (ds : List ℕ)
    → IsBoundary canonical weights d → IsApart weights numeric d → scalars xs ≡ true → scalars (d ∷ ds) ≡ true
    → elements_of_list canonical weights numeric (xs ++ d ∷ ds)
    ≡ elements_of_list canonical weights numeric xs
    ++ elements_within (suc (length ds)) canonical weights numeric (placed_behind (after [] xs) (d ∷ ds))
unfolding placed_behind
list_from canonical weights numeric xs d ds b apart s t =
    let before = after [] xs
    in let whole = xs ++ d ∷ ds
    in let front = placed_behind [] xs
    in let q : Placed = record { character = d; before = before }
    in let qs = placed_behind (take 3 (d ∷ before)) ds
    in let split : placed_behind [] whole ≡ front ++ q ∷ qs = placed_append [] xs (d ∷ ds)
    in let front_ok : scalars (characters_of front) ≡ true = ap scalars (characters_placed [] xs) ∙ s
    in let back_ok : scalars (characters_of (q ∷ qs)) ≡ true = ap scalars (characters_placed before (d ∷ ds)) ∙ t
    in let count : length (front ++ q ∷ qs) ≡ length whole = sym (ap length split) ∙ length_placed [] whole
    in let front_count : length front ≡ length xs = length_placed [] xs
    in let behind_count : length qs ≡ length ds = length_placed (take 3 (d ∷ before)) ds
    in let parts = length-append front (q ∷ qs)
    in let first : elements_within (length whole) canonical weights numeric front ≡ elements_within (length xs) canonical weights numeric front =
    any_count canonical weights numeric (length whole) (length xs) front (omega arith) (omega arith)
    in let second : elements_within (length whole) canonical weights numeric (q ∷ qs) ≡ elements_within (suc (length ds)) canonical weights numeric (q ∷ qs) =
    any_count canonical weights numeric (length whole) (suc (length ds)) (q ∷ qs) (omega arith) (omega arith)
    in ap (elements_within (length whole) canonical weights numeric) split
    ∙ split_at_boundary canonical weights numeric q qs b apart back_ok (length whole) front front_ok (omega arith)
    ∙ cc (first, second)

-- the elements of a list that goes on at a boundary, where with this and two more, or with more, no prefix is recorded
list_anew : (canonical : Canonical) (weights : Weights) (numeric : Bool) (xs : List ℕ) (d : ℕ) (ds cs : List ℕ)
    → IsBoundary canonical weights d → IsApart weights numeric d → AllByRecursion (IsUnprefixed weights) (d ∷ ds) → 3 ≤ length (d ∷ ds)
    → scalars xs ≡ true → scalars ((d ∷ ds) ++ cs) ≡ true
    → elements_of_list canonical weights numeric (xs ++ ((d ∷ ds) ++ cs))
    ≡ elements_of_list canonical weights numeric xs ++ elements_of_list canonical weights numeric ((d ∷ ds) ++ cs)
list_anew canonical weights numeric xs d ds cs boundary apart all count s t =
    let front = d ∷ ds
    in let rest = front ++ cs
    in let alike = front_alike weights front (after [] xs) [] cs all count (scalars_parts front cs t).0 (after_scalars [] xs refl s) refl
    in list_from canonical weights numeric xs d (ds ++ cs) boundary apart s t
    ∙ ap (λ (es : List Element). elements_of_list canonical weights numeric xs ++ es)
    (elements_alike canonical weights numeric (length rest) (placed_behind (after [] xs) rest) (placed_behind [] rest) alike)

-- Three characters whose full lists begin with starters, the first with a boundary, and what stands between them: up to the
-- third there is none with which a prefix is recorded.
pub record IsFront (canonical : Canonical) (weights : Weights) (a : ℕ) (m : List ℕ) (b : ℕ) (n : List ℕ) (c : ℕ) : Type 0 where
  pub first : ℕ
  pub firsts : List ℕ
  pub first_full : canonical.full a ≡ first ∷ firsts
  pub boundary : IsBoundary canonical weights first
  pub firsts_go_on : AllByRecursion (IsUnprefixed weights) firsts
  pub between : AllByRecursion (GoesOn canonical weights) m
  pub second : ℕ
  pub seconds : List ℕ
  pub second_full : canonical.full b ≡ second ∷ seconds
  pub second_starter : canonical.class second ≡ 0
  pub second_goes_on : IsUnprefixed weights second
  pub seconds_go_on : AllByRecursion (IsUnprefixed weights) seconds
  pub further : AllByRecursion (GoesOn canonical weights) n
  pub third : ℕ
  pub thirds : List ℕ
  pub third_full : canonical.full c ≡ third ∷ thirds
  pub third_starter : canonical.class third ≡ 0
  pub third_goes_on : IsUnprefixed weights third

module _ (collation : Collation) (options : ResolvedCollatorOptions) (decomposing : IsDecomposing collation.canonical) (a : ℕ) (m : List ℕ) (b : ℕ) (n : List ℕ) (c : ℕ) (front : IsFront collation.canonical collation.weights a m b n c) (apart : IsApart collation.weights (is_numeric options.numeric) front.first) where
  abbrev text : List ℕ → List ℕ
  text p = a ∷ (m ++ b ∷ (n ++ c ∷ p))

  -- the decomposed list and the elements of a text in which they stand
  abbrev list : List ℕ
  list = three_full collation.canonical m n front.first front.second front.third front.firsts front.seconds

  abbrev rest : List ℕ → List ℕ
  rest p = behind_first collation.canonical front.thirds p

  text_list : (x p : List ℕ) → decomposed collation.canonical (x ++ text p) ≡ decomposed collation.canonical x ++ (list ++ rest p)
  text_list x p =
      decomposed_three collation.canonical m n front.first front.second front.third front.firsts front.seconds x p a b c front.thirds front.first_full front.second_full front.third_full
      front.boundary.starter front.second_starter front.third_starter

  text_begins : (p : List ℕ) → decomposed collation.canonical (text p) ≡ list ++ rest p
  unfolding decomposed marks_in_order
  text_begins p = text_list [] p

  text_anew : (x p : List ℕ) → decomposed collation.canonical (x ++ text p) ≡ decomposed collation.canonical x ++ decomposed collation.canonical (text p)
  text_anew x p = text_list x p ∙ ap (λ (w : List ℕ). decomposed collation.canonical x ++ w) (sym (text_begins p))

  list_goes_on : AllByRecursion (IsUnprefixed collation.weights) list
  list_goes_on =
      three_full_all collation.canonical m n front.first front.second front.third front.firsts front.seconds (IsUnprefixed collation.weights)
      (boundary_unprefixed collation.canonical collation.weights front.first front.boundary) front.firsts_go_on front.between
      front.second_goes_on front.seconds_go_on front.further front.third_goes_on

  list_count : 3 ≤ length list
  list_count = three_full_count collation.canonical m n front.first front.second front.third front.firsts front.seconds

  elements_anew : (x p : List ℕ) → All IsScalar (x ++ text p)
      → elements_of_text collation options (x ++ text p) ≡ elements_of_text collation options x ++ elements_of_text collation options (text p)
  elements_anew x p h =
      let canonical = collation.canonical
      in let before = decomposed canonical x
      in let ok : scalars (before ++ (list ++ rest p)) ≡ true = ap scalars (sym (text_list x p)) ∙ decomposed_characters canonical (x ++ text p) decomposing h
      in let parts = scalars_parts before (list ++ rest p) ok
      in let Read : List ℕ → List Element = λ l. elements_of_list canonical collation.weights (is_numeric options.numeric) l
      in ap Read (text_list x p)
      ∙ list_anew canonical collation.weights (is_numeric options.numeric) before front.first
      (three_behind collation.canonical m n front.first front.second front.third front.firsts front.seconds) (rest p) front.boundary apart list_goes_on list_count parts.0 parts.1
      ∙ ap (λ (l : List ℕ). Read before ++ Read l) (sym (text_begins p))

  -- so what stands before may be skipped, where what stands from there on counts apart
  pub front_skipped : collation.backward ≡ false → (x p q : List ℕ)
      → CountApart collation options (elements_of_text collation options (text p)) → CountApart collation options (elements_of_text collation options (text q))
      → All IsScalar (x ++ text p) → All IsScalar (x ++ text q)
      → collation_order collation options (x ++ text p) (x ++ text q) ≡ collation_order collation options (text p) (text q)
  front_skipped forward x p q one other h g =
      rw (elements_anew x p h, elements_anew x q g, text_anew x p, text_anew x q)
      (levels_behind collation options forward (elements_of_text collation options x) (elements_of_text collation options (text p)) (elements_of_text collation options (text q))
      (decomposed collation.canonical x) (decomposed collation.canonical (text p)) (decomposed collation.canonical (text q)) one other)
