-- Elements with their lines, and the weights that lines up to one give.
use Rattle.std.proofs.Common.{◌≡◌, ◌↔◌, ⊎_elim, ℕ, zero, suc, ◌+◌, ◌*◌, ◌^◌, ◌<◌, ◌≤◌, Bool, true, false, cond, leb, List, [], ◌∷◌, ◌++◌, length, get_or, map, take, Option, Some, None, refl, sym, ap, ◌∙◌, subst, arith, append-nil, append_assoc, IsTrue}
use Rattle.std.specs.Prelude.{filter}
use Rattle.std.specs.List.{Contains, list_all}
use Rattle.std.specs.List.Sorted.{IsPermutation}
use Rattle.std.proofs.lemmas.Bool.{le-leb, leb-true}
use Rattle.std.proofs.lemmas.List.{get_or-map, length-map, length-take-le, take_more}
use Rattle.std.proofs.lemmas.List.Elements.{All-filter, Contains-append_cases, Contains-append_left, Contains-append_right, Contains-get_or, filter_passes}
use Rattle.std.proofs.lemmas.List.Sorted.{Contains-permutation, IsPermutation-sym}
use Rattle.icu_collator_types.specs.declared.elements.Element.{Element}
use Rattle.icu_collator_core.specs.WeightRules.{are_apart, primary_bytes}
use Rattle.icu_collator_core.proofs.apart.GrowthLemmas.{first_in, first_or_later, later_in, none_in}
use Rattle.icu_collator_core.proofs.apart.LevelLemmas.{all_levels, from_mapped, mapped_in}
use Rattle.collate_lines.specs.declared.record.Record.{Record as Line}
use Rattle.collate_lines.specs.Record.{Record, nothing, said}
use Rattle.collate_rules.specs.GivenWeights.{are_all_apart, elements_of, given_elements}
use Rattle.collate_rules.specs.Indices.{TellsFirstIndex}
use Rattle.collate_rules.proofs.given.GivenListLemmas.{apart_told, list_all_from, list_all_tells}
use Rattle.collate_weight_rules.specs.declared.apart.ApartTest.{ApartTest}
use Rattle.collate_weight_rules.specs.PlacedWeights.{HasPlaced, are_apart_to, are_weights_apart, placed_elements, weights_to}
use Rattle.collate_weight_rules.proofs.soundness.WeightRuleApartLemmas.{ApartBy, told_by}

-- ---- Elements with their lines

-- none has a line before the first
not_before : (n : ℕ) (rs : List Record) (q : Element × ℕ) → Contains (placed_elements n rs) q → n ≤ q.1
not_before n [] q c = absurd (none_in q c)
not_before n (r ∷ rs) q c =
    ⊎_elim
    (λ here. let w = from_mapped (λ (e : Element). (e, n)) (elements_of r) q here in let same = ap (λ (p : Element × ℕ). p.1) w.2 in omega (arith, same))
    (λ later. let h = not_before (n + 1) rs q later in omega (arith, h))
    (Contains-append_cases (map (λ (e : Element). (e, n)) (elements_of r)) (placed_elements (n + 1) rs) q c)

-- one with its line is given by the lines up to that
given_to : (n k : ℕ) (rs : List Record) (q : Element × ℕ) → Contains (placed_elements n rs) q → q.1 < n + k → Contains (given_elements (take k rs)) q.0
given_to n k [] q c lt = absurd (none_in q c)
given_to n zero (r ∷ rs) q c lt = let h = not_before n (r ∷ rs) q c in absurd (omega (arith, h, lt))
given_to n (suc k) (r ∷ rs) q c lt =
    ⊎_elim
    (λ here.
    let w = from_mapped (λ (e : Element). (e, n)) (elements_of r) q here in
    Contains-append_left (elements_of r) (given_elements (take k rs)) q.0 (subst (Contains (elements_of r)) (ap (λ (p : Element × ℕ). p.0) w.2) w.1))
    (λ later. Contains-append_right (elements_of r) (given_elements (take k rs)) q.0 (given_to (n + 1) k rs q later (omega (arith, lt))))
    (Contains-append_cases (map (λ (e : Element). (e, n)) (elements_of r)) (placed_elements (n + 1) rs) q c)

-- one that lines give has one of them
placed_to : (n k : ℕ) (rs : List Record) (e : Element) → Contains (given_elements (take k rs)) e → (i : ℕ) × Contains (placed_elements n rs) (e, i) × (i < n + k)
placed_to n zero rs e c = absurd (none_in e c)
placed_to n (suc k) [] e c = absurd (none_in e c)
placed_to n (suc k) (r ∷ rs) e c =
    ⊎_elim
    (λ here. (
      n,
      Contains-append_left (map (λ (d : Element). (d, n)) (elements_of r)) (placed_elements (n + 1) rs) (e, n) (mapped_in (λ (d : Element). (d, n)) (elements_of r) e here),
      omega arith,
    ))
    (λ later.
    let w = placed_to (n + 1) k rs e later in
    let lt = w.2 in
    (w.0, Contains-append_right (map (λ (d : Element). (d, n)) (elements_of r)) (placed_elements (n + 1) rs) (e, w.0) w.1, omega (arith, lt)))
    (Contains-append_cases (elements_of r) (given_elements (take k rs)) e c)

placed_append : (n : ℕ) (xs ys : List Record) → placed_elements n (xs ++ ys) ≡ placed_elements n xs ++ placed_elements (n + length xs) ys
placed_append n [] ys = ap (λ (k : ℕ). placed_elements k ys) (omega arith)
placed_append n (x ∷ xs) ys =
    let here = map (λ (e : Element). (e, n)) (elements_of x) in
    ap (λ (ps : List (Element × ℕ)). here ++ ps) (placed_append (n + 1) xs ys ∙ ap (λ (k : ℕ). placed_elements (n + 1) xs ++ placed_elements k ys) (omega arith))
    ∙ sym (append_assoc here (placed_elements (n + 1) xs) (placed_elements (n + length (x ∷ xs)) ys))

-- those of one line more, as lines were read
pub placed_more : (lines : List Line) (i : ℕ) (x : Line) → i < length lines → x ≡ get_or lines i x
    → placed_elements 0 (take (i + 1) (map said lines)) ≡ placed_elements 0 (take i (map said lines)) ++ map (λ e. (e, i)) (elements_of (said x))
placed_more lines i x within read =
    let many = length-map lines said in
    let before = take i (map said lines) in
    let count = length-take-le i (map said lines) (omega (arith, many, within)) in
    ap (placed_elements 0)
    (take_more (map said lines) i nothing (omega (arith, many, within))
    ∙ ap (λ (s : Record). before ++ s ∷ []) (get_or-map said lines i x nothing within ∙ ap said (sym read)))
    ∙ placed_append 0 before (said x ∷ [])
    ∙ ap (λ (ps : List (Element × ℕ)). placed_elements 0 before ++ ps)
    (append-nil (map (λ (e : Element). (e, 0 + length before)) (elements_of (said x)))
    ∙ ap (λ (k : ℕ). map (λ (e : Element). (e, k)) (elements_of (said x))) (omega (arith, count)))

-- ---- What a test keeps of a list

module _ {X : Type 0} (p : X → Bool) where
  one_more : (b : Bool) (y x : X) (zs : List X) → Contains zs x → Contains (cond b (y ∷ zs) zs) x
  one_more true y x zs c = later_in y x zs c
  one_more false y x zs c = c

  kept_in : (xs : List X) (x : X) → Contains xs x → p x ≡ true → Contains (filter p xs) x
  kept_in [] x c h = absurd (none_in x c)
  kept_in (y ∷ ys) x c h =
      ⊎_elim
      (λ same.
      subst (λ (b : Bool). Contains (cond b (y ∷ filter p ys) (filter p ys)) x) (sym (ap p same ∙ h))
      (subst (λ (z : X). Contains (z ∷ filter p ys) x) (sym same) (first_in x (filter p ys))))
      (λ later. one_more (p y) y x (filter p ys) (kept_in ys x later h))
      (first_or_later y x ys c)

  from_kept : (xs : List X) (x : X) → Contains (filter p xs) x → Contains xs x × (p x ≡ true)
  from_kept xs x c = (
    subst (Contains xs) c.2 (All-filter p (Contains xs) xs (λ k d h. Contains-get_or xs k d h) c.0 x c.1),
    subst (λ (y : X). p y ≡ true) c.2 (filter_passes p xs c.0 x c.1),
  )

-- ---- One level

module _ (f : Element → ℕ) (records : List Record) (placed : List (ℕ × ℕ)) (moved : IsPermutation (map (λ p. (f p.0, p.1)) (placed_elements 0 records)) placed) (line : ℕ) where
  abbrev with_line : Element × ℕ → ℕ × ℕ
  with_line p = (f p.0, p.1)

  abbrev is_kept : ℕ × ℕ → Bool
  is_kept p = leb p.1 line

  abbrev given : List Element
  given = given_elements (take (line + 1) records)

  is_given : (v : ℕ) → Contains (weights_to placed line) v → Contains (map f given) v
  is_given v c =
      let a = from_mapped (λ (p : ℕ × ℕ). p.0) (filter is_kept placed) v c in
      let b = from_kept is_kept placed a.0 a.1 in
      let d = from_mapped with_line (placed_elements 0 records) a.0 (Contains-permutation placed (map with_line (placed_elements 0 records)) a.0 (IsPermutation-sym (map with_line (placed_elements 0 records)) placed moved) b.0) in
      let at = ap (λ (p : ℕ × ℕ). p.1) d.2 in
      let most = leb-true a.0.1 line b.1 in
      subst (Contains (map f given)) (ap (λ (p : ℕ × ℕ). p.0) d.2 ∙ a.2)
      (mapped_in f given d.0.0 (given_to 0 (line + 1) records d.0 d.1 (omega (arith, at, most))))

  is_placed : (v : ℕ) → Contains (map f given) v → Contains (weights_to placed line) v
  is_placed v c =
      let a = from_mapped f given v c in
      let w = placed_to 0 (line + 1) records a.0 a.1 in
      let lt = w.2 in
      let there = Contains-permutation (map with_line (placed_elements 0 records)) placed (f a.0, w.0) moved (mapped_in with_line (placed_elements 0 records) (a.0, w.0) w.1) in
      subst (Contains (weights_to placed line)) a.2
      (mapped_in (λ (p : ℕ × ℕ). p.0) (filter is_kept placed) (f a.0, w.0) (kept_in is_kept placed (f a.0, w.0) there (le-leb w.0 line (omega (arith, lt)))))

  level_apart : IsTrue (are_weights_apart (weights_to placed line)) ↔ ApartBy f given
  level_apart =
      let ws = weights_to placed line in
      told_by f given (map f given) (are_weights_apart ws) refl (
        λ t v w c k.
            list_all_tells (are_apart primary_bytes v) ws (list_all_tells (λ u. list_all (are_apart primary_bytes u) ws) ws t v (is_placed v c)) w (is_placed w k),
        λ all.
            list_all_from (λ u. list_all (are_apart primary_bytes u) ws) ws
            (λ v c. list_all_from (are_apart primary_bytes v) ws (λ w k. all v w (is_given v c) (is_given w k))),
      )

-- ---- All levels

pub apart_to : (records : List Record) (test : ApartTest) (line : ℕ) → HasPlaced records test → are_apart_to test line ≡ are_all_apart (given_elements (take (line + 1) records))
apart_to records test line has =
    let es = given_elements (take (line + 1) records) in
    apart_told es (are_apart_to test line)
    (all_levels es (are_weights_apart (weights_to test.primaries.items line)) (are_weights_apart (weights_to test.secondaries.items line)) (are_weights_apart (weights_to test.tertiaries.items line))
    (level_apart (λ e. e.primary) records test.primaries.items has.primaries line)
    (level_apart (λ e. e.secondary * 2 ^ 16) records test.secondaries.items has.secondaries line)
    (level_apart (λ e. e.tertiary * 2 ^ 16) records test.tertiaries.items has.tertiaries line))

-- a first index of what holds where another thing does
pub told_as : (H K : ℕ → Type 0) (count : ℕ) (found : Option ℕ) → ((i : ℕ) → H i ↔ K i) → TellsFirstIndex H count found → TellsFirstIndex K count found
told_as H K count None same told stays =
    let r = told (λ i j le h. (same j).1 (stays i j le ((same i).0 h))) in λ i lt k. r i lt ((same i).1 k)
told_as H K count (Some index) same told stays =
    let r = told (λ i j le h. (same j).1 (stays i j le ((same i).0 h))) in
    (r.0, (same index).0 r.1, λ j lt k. r.2 j lt ((same j).1 k))
