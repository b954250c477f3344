-- A full list followed step by step, what is still ahead on a stack.
use Rattle.std.proofs.Common.{◌≡◌, ◌≢◌, ℕ, zero, suc, ◌+◌, ◌-◌, ◌<◌, ◌≤◌, ◌==◌, cond, List, [], ◌∷◌, ◌++◌, flat_map, map, reverse, refl, sym, ap, ◌∙◌, arith, append_assoc, inl, inr}
use Rattle.std.proofs.lemmas.Bool.{cases_eq, cond-true, cond-false, eq-eqb, ne_eqb}
use Rattle.std.proofs.lemmas.List.{reverse-append, reverse-reverse}
use Rattle.std.proofs.lemmas.List.Concat.{flat_map-append}
use Rattle.std.proofs.lemmas.List.Sums.{sum_by-append, sum_by-cons, sum_by_push}
use Rattle.std.specs.List.{sum_by}
use Rattle.collate_rules.specs.Meaning.{expanded}
use Rattle.collate_rules.proofs.lists.RuleFullListLemmas.{expanded_none, expanded_some, expanded_unmapped}
use Rattle.collate_mapping_rules.specs.declared.fronts.Ahead.{Ahead}
use Rattle.collate_mapping_rules.specs.AheadLists.{at_limit}
use Rattle.collate_mapping_rules.specs.Fronts.{left_ahead, left_of, looks, looks_ahead}

flat_map-map : (f : Ahead → List ℕ) (g : ℕ → Ahead) (xs : List ℕ) → flat_map f (map g xs) ≡ flat_map (λ x. f (g x)) xs
flat_map-map f g [] = refl
flat_map-map f g (x ∷ xs) = ap (λ (l : List ℕ). f (g x) ++ l) (flat_map-map f g xs)

sum_by-map : (f : Ahead → ℕ) (g : ℕ → Ahead) (xs : List ℕ) → sum_by f (map g xs) ≡ sum_by (λ x. f (g x)) xs
sum_by-map f g [] = refl
sum_by-map f g (x ∷ xs) =
    sum_by-cons f (g x) (map g xs) ∙ ap (λ (n : ℕ). f (g x) + n) (sum_by-map f g xs) ∙ sym (sum_by-cons (λ y. f (g y)) x xs)

reverse_cons : (x : Ahead) (xs : List Ahead) → reverse (x ∷ xs) ≡ reverse xs ++ x ∷ []
reverse_cons x xs = reverse-append (x ∷ []) xs

sum_by-reverse : (f : Ahead → ℕ) (xs : List Ahead) → sum_by f (reverse xs) ≡ sum_by f xs
sum_by-reverse f [] = refl
sum_by-reverse f (x ∷ xs) =
    let e = ap (sum_by f) (reverse_cons x xs) in
    let a = sum_by_push f (reverse xs) x in
    let b = sum_by-reverse f xs in
    let c = sum_by-cons f x xs in
    omega arith

-- what is put on a stack, by what the characters are
pub put_read : (below grown : List Ahead) (n : ℕ) (characters given : List ℕ) → grown ≡ below ++ reverse (map (at_limit n) characters)
    → characters ≡ given → grown ≡ below ++ reverse (map (at_limit n) given)
put_read below grown n characters given e f = e ∙ ap (λ (l : List ℕ). below ++ reverse (map (at_limit n) l)) f

module _ (step : ℕ → List ℕ) where
  pub left_push : (below : List Ahead) (ahead : Ahead) → left_ahead step (below ++ ahead ∷ []) ≡ left_of step ahead ++ left_ahead step below
  left_push below ahead = ap (flat_map (left_of step)) (reverse-append below (ahead ∷ []))

  left_put : (below : List Ahead) (n : ℕ) (xs : List ℕ)
      → left_ahead step (below ++ reverse (map (at_limit n) xs)) ≡ flat_map (expanded step n) xs ++ left_ahead step below
  left_put below n xs =
      let all : List Ahead = map (at_limit n) xs in
      ap (flat_map (left_of step)) (reverse-append below (reverse all) ∙ ap (λ (s : List Ahead). s ++ reverse below) (reverse-reverse all))
      ∙ flat_map-append (left_of step) all (reverse below)
      ∙ ap (λ (l : List ℕ). l ++ left_ahead step below) (flat_map-map (left_of step) (at_limit n) xs)

  looks_push : (below : List Ahead) (ahead : Ahead) → looks_ahead step (below ++ ahead ∷ []) ≡ looks_ahead step below + looks step ahead.limit ahead.character
  looks_push below ahead = sum_by_push (λ a. looks step a.limit a.character) below ahead

  looks_put : (below : List Ahead) (n : ℕ) (xs : List ℕ)
      → looks_ahead step (below ++ reverse (map (at_limit n) xs)) ≡ looks_ahead step below + sum_by (looks step n) xs
  looks_put below n xs =
      let all : List Ahead = map (at_limit n) xs in
      sum_by-append (λ a. looks step a.limit a.character) below (reverse all)
      ∙ ap (λ (m : ℕ). looks_ahead step below + m)
      (sum_by-reverse (λ a. looks step a.limit a.character) all ∙ sum_by-map (λ a. looks step a.limit a.character) (at_limit n) xs)

  -- a look at least
  looks_some : (n c : ℕ) → 1 ≤ looks step n c
  unfolding looks
  looks_some zero c = omega arith
  looks_some (suc n) c = omega arith

  looks_more : (n c : ℕ) (given : List ℕ) → n ≢ 0 → given ≡ step c → looks step n c ≡ 1 + sum_by (looks step (n - 1)) given
  unfolding looks
  looks_more zero c given some e = absurd (some refl)
  looks_more (suc n) c given some e =
      let less : n ≡ suc n - 1 = omega arith in
      ap (λ (l : List ℕ). 1 + sum_by (looks step n) l) (sym e) ∙ ap (λ (m : ℕ). 1 + sum_by (looks step m) given) less

  module _ (stack below : List Ahead) (ahead : Ahead) (popped : stack ≡ below ++ ahead ∷ []) (given : List ℕ)
      (gives : given ≡ cond (ahead.limit == 0) [] (step ahead.character)) where
    -- no step is left to be made, or there is none
    alone : given ≡ [] → expanded step ahead.limit ahead.character ≡ ahead.character ∷ []
    alone none =
        elim (cases_eq ahead.limit 0) [
          | inl e ↦ expanded_none step ahead.limit ahead.character e
          | inr apart ↦ expanded_unmapped step ahead.limit ahead.character (sym (cond-false (ahead.limit == 0) [] (step ahead.character) (ne_eqb ahead.limit 0 apart)) ∙ sym gives ∙ none)
        ]

    -- a step is made
    stepped : given ≢ [] → (ahead.limit ≢ 0) × (given ≡ step ahead.character)
    stepped some =
        let apart : ahead.limit ≢ 0 = λ e. some (gives ∙ cond-true (ahead.limit == 0) [] (step ahead.character) (eq-eqb ahead.limit 0 e)) in
        (apart, gives ∙ cond-false (ahead.limit == 0) [] (step ahead.character) (ne_eqb ahead.limit 0 apart))

    pub followed_alone : (done full : List ℕ) → given ≡ [] → done ++ left_ahead step stack ≡ full → (done ++ ahead.character ∷ []) ++ left_ahead step below ≡ full
    followed_alone done full none so_far =
        append_assoc done (ahead.character ∷ []) (left_ahead step below)
        ∙ ap (λ (l : List ℕ). done ++ (l ++ left_ahead step below)) (sym (alone none))
        ∙ ap (λ (l : List ℕ). done ++ l) (sym (left_push below ahead))
        ∙ ap (λ (s : List Ahead). done ++ left_ahead step s) (sym popped)
        ∙ so_far

    pub followed_on : (done full : List ℕ) (grown : List Ahead) → given ≢ [] → grown ≡ below ++ reverse (map (at_limit (ahead.limit - 1)) given)
        → done ++ left_ahead step stack ≡ full → done ++ left_ahead step grown ≡ full
    followed_on done full grown some e so_far =
        let made = stepped some in
        ap (λ (s : List Ahead). done ++ left_ahead step s) e
        ∙ ap (λ (l : List ℕ). done ++ l) (left_put below (ahead.limit - 1) given)
        ∙ ap (λ (l : List ℕ). done ++ (l ++ left_ahead step below)) (sym (expanded_some step ahead.limit ahead.character given made.0 (sym made.1) some))
        ∙ ap (λ (l : List ℕ). done ++ l) (sym (left_push below ahead))
        ∙ ap (λ (s : List Ahead). done ++ left_ahead step s) (sym popped)
        ∙ so_far

    pub fewer_alone : looks_ahead step below < looks_ahead step stack
    fewer_alone =
        let e = ap (looks_ahead step) popped in
        let a = looks_push below ahead in
        let b = looks_some ahead.limit ahead.character in
        omega arith

    pub fewer_on : (grown : List Ahead) → given ≢ [] → grown ≡ below ++ reverse (map (at_limit (ahead.limit - 1)) given)
        → looks_ahead step grown < looks_ahead step stack
    fewer_on grown some e =
        let made = stepped some in
        let f = ap (looks_ahead step) popped in
        let a = looks_push below ahead in
        let b = ap (looks_ahead step) e in
        let g = looks_put below (ahead.limit - 1) given in
        let h = looks_more ahead.limit ahead.character given made.0 made.1 in
        omega arith
