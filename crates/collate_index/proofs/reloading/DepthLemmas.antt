-- How many mapping steps lead on from a character, one after another: from what a step brings in fewer do.
use Rattle.std.proofs.Common.{◌≡◌, ℕ, zero, suc, ◌<◌, ◌≤◌, Bool, true, false, cond, ◌&&◌, List, [], ◌∷◌, flat_map, refl, sym, ap, ◌∙◌, arith, Contains}
use Rattle.std.specs.Char.{IsScalar}
use Rattle.std.specs.List.{AllByRecursion, list_all}
use Rattle.std.proofs.lemmas.Bool.{and_parts, false≢true}
use Rattle.std.proofs.lemmas.List.Elements.{All-contains, All-from_recursion}
use Rattle.std.proofs.lemmas.List.Folds.{list_all-append}
use Rattle.icu_normalizer_core.specs.Canonical.{Canonical, IsDecomposing}
use Rattle.icu_normalizer_core.proofs.decomposed_lists.DecomposedLemmas.{AreUnmapped, unmapped_left}
use Rattle.collate_lines.specs.Record.{Record}
use Rattle.collate_rules.specs.Meaning.{canonical_of, expanded, step_of}

-- ---- The least number of which a test says yes

-- the least below another, else that other
least : (ℕ → Bool) → ℕ → ℕ
least p zero = zero
least p (suc m) = cond (p zero) zero (suc (least (λ n. p (suc n)) m))

least_within : (p : ℕ → Bool) (m : ℕ) → least p m ≤ m
unfolding least
least_within p zero = omega arith
least_within p (suc m) = by (p zero) (least_within (λ n. p (suc n)) m)
  where
    by : (b : Bool) → least (λ n. p (suc n)) m ≤ m → cond b zero (suc (least (λ n. p (suc n)) m)) ≤ suc m
    by true h = omega arith
    by false h = omega arith

least_le : (p : ℕ → Bool) (m k : ℕ) → p k ≡ true → least p m ≤ k
unfolding least
least_le p zero k is = omega arith
least_le p (suc m) zero is = by (p zero) is
  where
    by : (b : Bool) → b ≡ true → cond b zero (suc (least (λ n. p (suc n)) m)) ≤ zero
    by true e = omega arith
    by false e = absurd (false≢true e)
least_le p (suc m) (suc k) is = by (p zero) (least_le (λ n. p (suc n)) m k is)
  where
    by : (b : Bool) → least (λ n. p (suc n)) m ≤ k → cond b zero (suc (least (λ n. p (suc n)) m)) ≤ suc k
    by true h = omega arith
    by false h = omega arith

least_passes : (p : ℕ → Bool) (m : ℕ) → p m ≡ true → p (least p m) ≡ true
unfolding least
least_passes p zero is = is
least_passes p (suc m) is = by (p zero) refl (least_passes (λ n. p (suc n)) m is)
  where
    by : (b : Bool) → p zero ≡ b → p (suc (least (λ n. p (suc n)) m)) ≡ true → p (cond b zero (suc (least (λ n. p (suc n)) m))) ≡ true
    by true e h = e
    by false e h = h

-- ---- Steps that end

abbrev is_end : List ℕ → Bool
is_end [] = true
is_end (d ∷ ds) = false

-- whether so many steps from a character leave only what isn't mapped
abbrev ends_in : (ℕ → List ℕ) → ℕ → ℕ → Bool
ends_in step c n = list_all (λ d. is_end (step d)) (expanded step n c)

unmapped_ends : (canonical : Canonical) (cs : List ℕ) → AreUnmapped canonical cs → list_all (λ d. is_end (canonical.step d)) cs ≡ true
unmapped_ends canonical [] h = refl
unmapped_ends canonical (c ∷ cs) h = ap (λ (ds : List ℕ). is_end ds && list_all (λ d. is_end (canonical.step d)) cs) h.0 ∙ unmapped_ends canonical cs h.1

nothing_in : {P : Type 0} (d : ℕ) → Contains [] d → P
nothing_in d within = absurd (omega (arith, within.1))

module _ (step : ℕ → List ℕ) where
  -- where so many steps from each of some end, they do from one of them
  parts_end : (n : ℕ) (ds : List ℕ) → list_all (λ d. is_end (step d)) (flat_map (expanded step n) ds) ≡ true
      → AllByRecursion (λ d. ends_in step d n ≡ true) ds
  parts_end n [] h = tt
  parts_end n (d ∷ ds) h =
      let parts = and_parts (ends_in step d n) (list_all (λ d. is_end (step d)) (flat_map (expanded step n) ds))
      (sym (list_all-append (λ d. is_end (step d)) (expanded step n d) (flat_map (expanded step n) ds)) ∙ h) in
      (parts.0, parts_end n ds parts.1)

  -- where steps from a character end, they end one earlier from what its step brings in
  fewer : (m c d n : ℕ) → ends_in step c n ≡ true → Contains (step c) d → least (ends_in step d) m < n
  unfolding expanded
  fewer m c d zero ends within = by (step c) within ends
    where
      by : (ds : List ℕ) → Contains ds d → (is_end ds && true) ≡ true → least (ends_in step d) m < zero
      by [] h e = nothing_in d h
      by (x ∷ xs) h e = absurd (false≢true e)
  fewer m c d (suc n) ends within = by (step c) within ends
    where
      by : (ds : List ℕ) → Contains ds d
          → list_all (λ x. is_end (step x)) (elim ds as (λ _. List ℕ) [ [] ↦ c ∷ [] | x ∷ xs ↦ flat_map (expanded step n) (x ∷ xs) ]) ≡ true
          → least (ends_in step d) m < suc n
      by [] h e = nothing_in d h
      by (x ∷ xs) h e =
          let Ends : ℕ → Type 0 = λ y. ends_in step y n ≡ true in
          let here : Ends d = All-contains Ends (x ∷ xs) d (All-from_recursion Ends (x ∷ xs) (parts_end n (x ∷ xs) e)) h in
          let le = least_le (ends_in step d) m n here in omega arith

  -- how many steps lead on from a character, if so many at most do
  pub depth_within : ℕ → ℕ → ℕ
  depth_within m c = least (ends_in step c) m

  pub depth_within_le : (m c : ℕ) → depth_within m c ≤ m
  unfolding depth_within
  depth_within_le m c = least_within (ends_in step c) m

  less_deep : (m c d : ℕ) → ends_in step c m ≡ true → Contains (step c) d → depth_within m d < depth_within m c
  unfolding depth_within
  less_deep m c d ends within = fewer m c d (least (ends_in step c) m) (least_passes (ends_in step c) m ends) within

-- how many steps lead on from a character by lines
abbrev pub depth_of : List Record → ℕ → ℕ
depth_of records c = depth_within (step_of records) 0x110000 c

-- from what a step brings in fewer steps lead on
pub step_less_deep : (records : List Record) (c d : ℕ) → IsDecomposing (canonical_of records) → IsScalar c → Contains (step_of records c) d
    → depth_of records d < depth_of records c
step_less_deep records c d decomposing scalar within =
    let canonical = canonical_of records in
    let left = unmapped_left canonical (c ∷ []) (expanded (step_of records) 0x110000 c) (decomposing.ends c scalar) in
    less_deep (step_of records) 0x110000 c d (unmapped_ends canonical (expanded (step_of records) 0x110000 c) left) within
