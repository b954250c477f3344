-- A walk along mapping steps: the characters that wait, and the one that is looked at. Of none of them anything is known, and from
-- each fewer steps lead on than from those before it.
use Rattle.std.proofs.Common.{◌≡◌, ℕ, ◌+◌, ◌<◌, Bool, List, [], ◌∷◌, ◌++◌, length, get_or, set, Option, None, Some, refl, sym, ap, ◌∙◌, subst, arith}
use Rattle.std.specs.List.{All, AllPairs, sum_by}
use Rattle.std.proofs.Math.Seq.{get_or-append_seam}
use Rattle.std.proofs.lemmas.List.{get_or_append_left, get_or-set_other, length_push}
use Rattle.std.proofs.lemmas.List.Elements.{All-push}
use Rattle.std.proofs.lemmas.List.Quantifiers.{all_pairs_push}
use Rattle.std.proofs.lemmas.List.Sums.{sum_by-set}
use Rattle.collate_index.specs.Changes.{IsUnknown}

-- ---- How much is not known

unknown_one : Option Bool → ℕ
unknown_one None = 1
unknown_one (Some is) = 0

-- of how many nothing is known
pub unknown_count : List (Option Bool) → ℕ
unknown_count known = sum_by unknown_one known

pub one_less_unknown : (known : List (Option Bool)) (c : ℕ) (is : Bool) → c < length known → IsUnknown known c
    → unknown_count (set known c (Some is)) + 1 ≡ unknown_count known
unfolding unknown_count unknown_one
one_less_unknown known c is within none =
    let put : sum_by unknown_one (set known c (Some is)) + unknown_one (get_or known c None) ≡ sum_by unknown_one known + 0 =
    sum_by-set unknown_one known c (Some is) None within in
    let one : unknown_one (get_or known c None) ≡ 1 = ap unknown_one none in
    omega arith

-- ---- Lists whose last one is taken off

module _ {X : Type 0} where
  front : (P : X → Type 0) (xs : List X) (y : X) → All P (xs ++ y ∷ []) → All P xs
  front P xs y h = λ k d within.
      let longer : length (xs ++ y ∷ []) ≡ length xs + 1 = length_push xs y in
      subst P (get_or_append_left xs (y ∷ []) d k within) (h k d (omega arith))

  pairs_front : (R : X → X → Type 0) (xs : List X) (y : X) → AllPairs R (xs ++ y ∷ []) → AllPairs R xs
  pairs_front R xs y h = λ i j d less within.
      let longer : length (xs ++ y ∷ []) ≡ length xs + 1 = length_push xs y in
      subst (λ (x : X). R x (get_or xs j d)) (get_or_append_left xs (y ∷ []) d i (omega arith))
      (subst (R (get_or (xs ++ y ∷ []) i d)) (get_or_append_left xs (y ∷ []) d j within) (h i j d less (omega arith)))

  pairs_last : (R : X → X → Type 0) (xs : List X) (y : X) → AllPairs R (xs ++ y ∷ []) → (k : ℕ) (d : X) → k < length xs → R (get_or xs k d) y
  pairs_last R xs y h k d within =
      let longer : length (xs ++ y ∷ []) ≡ length xs + 1 = length_push xs y in
      subst (λ (x : X). R x y) (get_or_append_left xs (y ∷ []) d k within)
      (subst (R (get_or (xs ++ y ∷ []) k d)) (get_or-append_seam xs y [] d) (h k (length xs) d within (omega arith)))

-- ---- The walk

module _ (depth : ℕ → ℕ) where
  abbrev Falls : ℕ → ℕ → Type 0
  Falls c d = depth d < depth c

  -- characters, the first of them c
  pub record IsWalk (known : List (Option Bool)) (c : ℕ) (characters : List ℕ) : Type 0 where
    pub unknown : All (IsUnknown known) characters
    pub falls : AllPairs Falls characters
    pub first : get_or characters 0 0 ≡ c

  pub walk_begun : (known : List (Option Bool)) (c : ℕ) (waiting : List ℕ) → waiting ≡ [] → IsUnknown known c → IsWalk known c (waiting ++ c ∷ [])
  walk_begun known c waiting empty none = subst (λ (cs : List ℕ). IsWalk known c (cs ++ c ∷ [])) (sym empty) (record {
    unknown = All-push (IsUnknown known) [] c (λ k d within. absurd (omega arith)) none;
    falls = all_pairs_push Falls [] c (λ i j d less within. absurd (omega arith)) (λ k d within. absurd (omega arith));
    first = refl;
  })

  -- one more that is brought in
  pub walk_further : (known : List (Option Bool)) (c : ℕ) (waiting : List ℕ) (here other : ℕ) (more : List ℕ) → more ≡ waiting ++ here ∷ []
      → IsUnknown known other → depth other < depth here → IsWalk known c (waiting ++ here ∷ []) → IsWalk known c (more ++ other ∷ [])
  walk_further known c waiting here other more pushed none less walk = subst (λ (cs : List ℕ). IsWalk known c (cs ++ other ∷ [])) (sym pushed) (record {
    unknown = All-push (IsUnknown known) (waiting ++ here ∷ []) other walk.unknown none;
    falls = all_pairs_push Falls (waiting ++ here ∷ []) other walk.falls each;
    first =
        let longer : length (waiting ++ here ∷ []) ≡ length waiting + 1 = length_push waiting here in
        get_or_append_left (waiting ++ here ∷ []) (other ∷ []) 0 0 (omega arith) ∙ walk.first;
  })
    where
      each : (k d : ℕ) → k < length (waiting ++ here ∷ []) → depth other < depth (get_or (waiting ++ here ∷ []) k d)
      each = All-push (λ x. depth other < depth x) waiting here
          (λ k d within. let above : depth here < depth (get_or waiting k d) = pairs_last Falls waiting here walk.falls k d within in omega arith) less

  -- the last is found out, and one before it isn't
  pub walk_back : (known : List (Option Bool)) (c : ℕ) (waiting fewer : List ℕ) (here earlier : ℕ) (is : Bool) → waiting ≡ fewer ++ earlier ∷ []
      → IsWalk known c (waiting ++ here ∷ []) → IsWalk (set known here (Some is)) c (fewer ++ earlier ∷ [])
  walk_back known c waiting fewer here earlier is popped walk = subst (IsWalk (set known here (Some is)) c) popped (record {
    unknown = λ k d within.
        let above : depth here < depth (get_or waiting k d) = pairs_last Falls waiting here walk.falls k d within in
        get_or-set_other known here (get_or waiting k d) (Some is) None (λ same. let e : depth (get_or waiting k d) ≡ depth here = ap depth same in omega arith)
        ∙ front (IsUnknown known) waiting here walk.unknown k d within;
    falls = pairs_front Falls waiting here walk.falls;
    first =
        let shorter : length waiting ≡ length fewer + 1 = ap length popped ∙ length_push fewer earlier in
        sym (get_or_append_left waiting (here ∷ []) 0 0 (omega arith)) ∙ walk.first;
  })

  pub last_unknown : (known : List (Option Bool)) (c : ℕ) (waiting : List ℕ) (here : ℕ) → IsWalk known c (waiting ++ here ∷ []) → IsUnknown known here
  last_unknown known c waiting here walk =
      let longer : length (waiting ++ here ∷ []) ≡ length waiting + 1 = length_push waiting here in
      subst (IsUnknown known) (get_or-append_seam waiting here [] here) (walk.unknown (length waiting) here (omega arith))

  -- where none waits, the last is the first
  pub last_first : (known : List (Option Bool)) (c : ℕ) (waiting : List ℕ) (here : ℕ) → waiting ≡ [] → IsWalk known c (waiting ++ here ∷ []) → here ≡ c
  last_first known c waiting here none walk =
      sym (ap (λ (cs : List ℕ). get_or (cs ++ here ∷ []) 0 0) none) ∙ walk.first
