-- A level whose runs of the common weight are written short orders as its weights do.
use Rattle.std.proofs.Common.{◌≡◌, ℕ, zero, suc, ◌<◌, ◌≤◌, ◌+◌, ◌*◌, ◌-◌, ◌/◌, ◌%◌, Bool, true, false, cond, List, [], ◌∷◌, ◌++◌, replicate, refl, sym, ◌∙◌, ap, subst, arith, append_assoc, inl, inr, ◌⊎◌, ⊎_elim}
use Rattle.std.proofs.lemmas.Bool.{cases_lt}
use Rattle.std.proofs.lemmas.Nat.{div-add-mod', le-div, mod_below}
use Rattle.std.specs.Cmp.Lexicographic.{slice_cmp}
use Rattle.std.specs.Ordering.{nat_cmp, ordering_then}
use Rattle.std.specs.declared.cmp.Ordering.{Ordering}
use Rattle.std.specs.declared.cmp.Ordering.TheVariants.{Less, Equal, Greater}
use Rattle.icu_collator.specs.Order.{list_order}
use Rattle.icu_collator.specs.KeyBytes.{RunCode, run_bytes, behind_run}
use Rattle.icu_collator.proofs.keys.CodesLemmas.{DiffersBelow, IsBelow, BeginsUpTo, BeginsAbove, AllFrom, less_is, greater_is, equal_is, below_less, below_greater, differs_below, behind_same, below_behind, end_below, begins_with, ranks_less, ranks_greater, ranks_equal, three_ways}

-- a list is empty, or begins with a byte below this one
abbrev pub BeginsBelow : ℕ → List ℕ → Type 0
BeginsBelow low [] = Unit {0}
BeginsBelow low (x ∷ xs) = x < low

-- a list begins with this byte or one above
abbrev BeginsFrom : ℕ → List ℕ → Type 0
BeginsFrom low [] = ⊥
BeginsFrom low (x ∷ xs) = low ≤ x

apart_below : (low : ℕ) (xs ys : List ℕ) → BeginsBelow low xs → BeginsFrom low ys → IsBelow xs ys
apart_below low [] [] a b = elim b [ ]
apart_below low [] (y ∷ ys) a b = tt
apart_below low (x ∷ xs) [] a b = elim b [ ]
apart_below low (x ∷ xs) (y ∷ ys) a b = inl (omega (arith, a, b))

-- What a code of runs must keep: the last bytes of runs meet at the middle byte, and all are above the end; weights below
-- the common one begin below the runs, weights above it begin above, and on each side they differ as they rank.
pub record IsRunCode {S W : Type 0} (code : RunCode W) (IsOne : S → W → Type 0) (end : ℕ) : Type 0 where
  pub some : 0 < code.most
  pub from_low : code.low + code.most ≡ code.middle + 1
  pub from_high : code.middle + code.most ≡ code.high + 1
  pub end_below : end < code.low
  pub same : (s : S) (v w : W) → IsOne s v → IsOne s w → code.rank v ≡ code.rank w → v ≡ w
  pub lower_rises :
      (s : S) (v w : W) → IsOne s v → IsOne s w → code.rank v < code.rank w → code.rank w < code.common → DiffersBelow (code.bytes v) (code.bytes w)
  pub higher_rises :
      (s : S) (v w : W) → IsOne s v → IsOne s w → code.rank v < code.rank w → code.common < code.rank v → DiffersBelow (code.bytes v) (code.bytes w)
  pub after_end : (s : S) (w : W) → IsOne s w → code.rank w < code.common → BeginsAbove end (code.bytes w)
  pub below_runs : (s : S) (w : W) → IsOne s w → code.rank w < code.common → BeginsBelow code.low (code.bytes w)
  pub above_runs : (s : S) (w : W) → IsOne s w → code.common < code.rank w → BeginsAbove code.high (code.bytes w)

quotients : (k m n : ℕ) → 0 < k → m < n → (m / k < n / k) ⊎ ((m / k ≡ n / k) × (m % k < n % k))
quotients k m n some h =
    let of_m : m / k * k + m % k ≡ m = div-add-mod' m k in
    let of_n : n / k * k + n % k ≡ n = div-add-mod' n k in
    let low : m / k ≤ n / k = le-div (m / k) n k some (omega (arith, of_m, h)) in
    ⊎_elim (λ less. inl less)
    (λ more.
    let e : n / k ≡ m / k = omega (arith, low, more) in
    let at_m : m / k * k + n % k ≡ n = subst (λ (q : ℕ). q * k + n % k ≡ n) e of_n in
    inr (sym e, omega (arith, of_m, at_m, h)))
    (cases_lt (m / k) (n / k))

module _ (low middle high most : ℕ) (from_low : low + most ≡ middle + 1) (from_high : middle + most ≡ high + 1) where
  run_from : (q last : ℕ) (z : List ℕ) → low ≤ last → 0 < most → BeginsFrom low (replicate q middle ++ last ∷ z)
  run_from zero last z h some = h
  run_from (suc q) last z h some = omega (arith, from_low, some)

  run_up_to : (q last : ℕ) (z : List ℕ) → last ≤ high → 0 < most → BeginsUpTo high (replicate q middle ++ last ∷ z)
  run_up_to zero last z h some = h
  run_up_to (suc q) last z h some = omega (arith, from_high, some)

  -- fewer common weights before something lower are below more of them
  fewer_lower :
      (p q r last : ℕ) (t z : List ℕ) → r < most → low ≤ last → (p < q) ⊎ ((p ≡ q) × (low + r < last)) → BeginsBelow low t
      → IsBelow (replicate p middle ++ (low + r) ∷ t) (replicate q middle ++ last ∷ z)
  fewer_lower zero zero r last t z hr hl (inl h) below = let never : ⊥ = omega (arith, h) in absurd never
  fewer_lower zero zero r last t z hr hl (inr (e, h)) below = inl h
  fewer_lower zero (suc q) r last t z hr hl h below =
      ⊎_elim (λ k. inl k) (λ k. inr (omega (arith, k, from_low, hr), apart_below low t _ below (run_from q last z hl (omega (arith, hr)))))
      (cases_lt (low + r) middle)
  fewer_lower (suc p) zero r last t z hr hl (inl h) below = let never : ⊥ = omega (arith, h) in absurd never
  fewer_lower (suc p) zero r last t z hr hl (inr (e, h)) below = let never : ⊥ = omega (arith, e) in absurd never
  fewer_lower (suc p) (suc q) r last t z hr hl h below =
      inr (refl, fewer_lower p q r last t z hr hl (⊎_elim (λ k. inl (omega (arith, k))) (λ k. inr (omega (arith, k.0), k.1)) h) below)

  -- fewer common weights before something higher are above more of them
  fewer_higher :
      (p q r last : ℕ) (u z : List ℕ) → r < most → last ≤ high → (p < q) ⊎ ((p ≡ q) × (last < high - r)) → BeginsAbove high u
      → IsBelow (replicate q middle ++ last ∷ z) (replicate p middle ++ (high - r) ∷ u)
  fewer_higher zero zero r last u z hr hl (inl h) above = let never : ⊥ = omega (arith, h) in absurd never
  fewer_higher zero zero r last u z hr hl (inr (e, h)) above = inl h
  fewer_higher zero (suc q) r last u z hr hl h above =
      ⊎_elim (λ k. inl k) (λ k. inr (omega (arith, k, from_high, hr), end_below high _ u (run_up_to q last z hl (omega (arith, hr))) above))
      (cases_lt middle (high - r))
  fewer_higher (suc p) zero r last u z hr hl (inl h) above = let never : ⊥ = omega (arith, h) in absurd never
  fewer_higher (suc p) zero r last u z hr hl (inr (e, h)) above = let never : ⊥ = omega (arith, e) in absurd never
  fewer_higher (suc p) (suc q) r last u z hr hl h above =
      inr (refl, fewer_higher p q r last u z hr hl (⊎_elim (λ k. inl (omega (arith, k))) (λ k. inr (omega (arith, k.0), k.1)) h) above)

  ends_apart : 0 < most → (t u : List ℕ) → BeginsBelow low t → BeginsAbove high u → IsBelow t u
  ends_apart some t [] a b = elim b [ ]
  ends_apart some [] (y ∷ ys) a b = tt
  ends_apart some (x ∷ xs) (y ∷ ys) a b = inl (omega (arith, a, b, from_low, from_high, some))

  -- as many before something lower are below as many before something higher
  lower_higher :
      (p r : ℕ) (t u : List ℕ) → r < most → BeginsBelow low t → BeginsAbove high u
      → IsBelow (replicate p middle ++ (low + r) ∷ t) (replicate p middle ++ (high - r) ∷ u)
  lower_higher p r t u hr below above =
      below_behind (replicate p middle) _ _
      (⊎_elim (λ k. inl k) (λ k. inr (omega (arith, k, hr, from_low, from_high), ends_apart (omega (arith, hr)) t u below above)) (cases_lt (low + r) (high - r)))

module _ {W : Type 0} (code : RunCode W) where
  -- the three ways in which a list goes on after common weights
  goes_on : ℕ → W → List W → Ordering → List ℕ
  goes_on n w ws o =
      let later = code.bytes w ++ behind_run code 0 ws
      in elim o [
        | Less ↦ run_bytes code false n ++ later
        | Equal ↦ behind_run code (suc n) ws
        | Greater ↦ run_bytes code true n ++ later
      ]

  goes : (n : ℕ) (w : W) (ws : List W) → behind_run code n (w ∷ ws) ≡ goes_on n w ws (nat_cmp (code.rank w) code.common)
  unfolding behind_run goes_on
  goes n w ws = refl

  pub goes_lower : (n : ℕ) (w : W) (ws : List W) → code.rank w < code.common → behind_run code n (w ∷ ws) ≡ run_bytes code false n ++ (code.bytes w ++ behind_run code 0 ws)
  unfolding goes_on
  goes_lower n w ws h = goes n w ws ∙ ap (goes_on n w ws) (less_is (code.rank w) code.common h)

  pub goes_common : (n : ℕ) (w : W) (ws : List W) → code.rank w ≡ code.common → behind_run code n (w ∷ ws) ≡ behind_run code (suc n) ws
  unfolding goes_on
  goes_common n w ws h = goes n w ws ∙ ap (λ r. goes_on n w ws (nat_cmp r code.common)) h ∙ ap (goes_on n w ws) (equal_is code.common)

  pub goes_higher : (n : ℕ) (w : W) (ws : List W) → code.common < code.rank w → behind_run code n (w ∷ ws) ≡ run_bytes code true n ++ (code.bytes w ++ behind_run code 0 ws)
  unfolding goes_on
  goes_higher n w ws h = goes n w ws ∙ ap (goes_on n w ws) (greater_is code.common (code.rank w) h)

module _ {S W : Type 0} (code : RunCode W) (IsOne : S → W → Type 0) (next : S → W → S) (end : ℕ) (is : IsRunCode code IsOne end) where
  -- runs of so many common weights, and what stands after them
  run_ends : (b : Bool) (n : ℕ) (t : List ℕ) → run_bytes code b (suc n) ++ t ≡ replicate (n / code.most) code.middle ++ cond b (code.high - n % code.most) (code.low + n % code.most) ∷ t
  unfolding run_bytes
  run_ends b n t = append_assoc (replicate (n / code.most) code.middle) (cond b (code.high - n % code.most) (code.low + n % code.most) ∷ []) t

  run_none : (b : Bool) (t : List ℕ) → run_bytes code b 0 ++ t ≡ t
  unfolding run_bytes
  run_none b t = refl

  last_bounds : (b : Bool) (n : ℕ) → (code.low ≤ cond b (code.high - n % code.most) (code.low + n % code.most)) × (cond b (code.high - n % code.most) (code.low + n % code.most) ≤ code.high)
  last_bounds true n = (omega (arith, is.from_low, is.from_high, mod_below n code.most is.some), omega (arith, is.from_low, is.from_high, mod_below n code.most is.some))
  last_bounds false n = (omega (arith, is.from_low, is.from_high, mod_below n code.most is.some), omega (arith, is.from_low, is.from_high, mod_below n code.most is.some))

  more_common_above : (b : Bool) (n m : ℕ) (t z : List ℕ) → n < m → BeginsBelow code.low t → IsBelow (run_bytes code false n ++ t) (run_bytes code b m ++ z)
  more_common_above b n zero t z h below = let never : ⊥ = omega (arith, h) in absurd never
  more_common_above b zero (suc m) t z h below =
      rw (run_none false t, run_ends b m z) (apart_below code.low t _ below (run_from code.low code.middle code.high code.most is.from_low is.from_high _ _ z (last_bounds b m).0 is.some))
  more_common_above b (suc n) (suc m) t z h below =
      rw (run_ends false n t, run_ends b m z)
      (fewer_lower code.low code.middle code.high code.most is.from_low is.from_high _ _ _ _ t z (mod_below n code.most is.some) (last_bounds b m).0
      (⊎_elim (λ k. inl k) (λ k. inr (k.0, last_above b m k.1)) (quotients code.most n m is.some (omega (arith, h)))) below)
    where
      last_above : (b : Bool) (m : ℕ) → n % code.most < m % code.most → code.low + n % code.most < cond b (code.high - m % code.most) (code.low + m % code.most)
      last_above true m k = omega (arith, k, is.from_low, is.from_high, mod_below m code.most is.some)
      last_above false m k = omega (arith, k)

  more_common_below : (b : Bool) (n m : ℕ) (u z : List ℕ) → n < m → BeginsAbove code.high u → IsBelow (run_bytes code b m ++ z) (run_bytes code true n ++ u)
  more_common_below b n zero u z h above = let never : ⊥ = omega (arith, h) in absurd never
  more_common_below b zero (suc m) u z h above =
      rw (run_none true u, run_ends b m z) (end_below code.high _ u (run_up_to code.low code.middle code.high code.most is.from_low is.from_high _ _ z (last_bounds b m).1 is.some) above)
  more_common_below b (suc n) (suc m) u z h above =
      rw (run_ends true n u, run_ends b m z)
      (fewer_higher code.low code.middle code.high code.most is.from_low is.from_high _ _ _ _ u z (mod_below n code.most is.some) (last_bounds b m).1
      (⊎_elim (λ k. inl k) (λ k. inr (k.0, last_below b m k.1)) (quotients code.most n m is.some (omega (arith, h)))) above)
    where
      last_below : (b : Bool) (m : ℕ) → n % code.most < m % code.most → cond b (code.high - m % code.most) (code.low + m % code.most) < code.high - n % code.most
      last_below true m k = omega (arith, k, is.from_low, is.from_high, mod_below m code.most is.some)
      last_below false m k = omega (arith, k, is.from_low, is.from_high, mod_below m code.most is.some)

  lower_before_higher : (n : ℕ) (t u : List ℕ) → BeginsBelow code.low t → BeginsAbove code.high u → IsBelow (run_bytes code false n ++ t) (run_bytes code true n ++ u)
  lower_before_higher zero t u below above = rw (run_none false t, run_none true u) (ends_apart code.low code.middle code.high code.most is.from_low is.from_high is.some t u below above)
  lower_before_higher (suc n) t u below above =
      rw (run_ends false n t, run_ends true n u) (lower_higher code.low code.middle code.high code.most is.from_low is.from_high _ _ t u (mod_below n code.most is.some) below above)

  goes_lower_with : (n : ℕ) (w : W) (ws : List W) (xs : List ℕ) → code.rank w < code.common → behind_run code n (w ∷ ws) ++ xs ≡ run_bytes code false n ++ (code.bytes w ++ (behind_run code 0 ws ++ xs))
  goes_lower_with n w ws xs h =
      ap (λ t. t ++ xs) (goes_lower code n w ws h) ∙ append_assoc (run_bytes code false n) _ xs
      ∙ ap (λ t. run_bytes code false n ++ t) (append_assoc (code.bytes w) (behind_run code 0 ws) xs)

  goes_higher_with : (n : ℕ) (w : W) (ws : List W) (xs : List ℕ) → code.common < code.rank w → behind_run code n (w ∷ ws) ++ xs ≡ run_bytes code true n ++ (code.bytes w ++ (behind_run code 0 ws ++ xs))
  goes_higher_with n w ws xs h =
      ap (λ t. t ++ xs) (goes_higher code n w ws h) ∙ append_assoc (run_bytes code true n) _ xs
      ∙ ap (λ t. run_bytes code true n ++ t) (append_assoc (code.bytes w) (behind_run code 0 ws) xs)

  ends_here : (n : ℕ) (xs : List ℕ) → behind_run code n [] ++ xs ≡ run_bytes code false n ++ xs
  unfolding behind_run
  ends_here n xs = refl

  -- fewer common weights before something lower are below any list after more of them
  longer_above : (n m : ℕ) (ws : List W) (t xs : List ℕ) → n < m → BeginsBelow code.low t → IsBelow (run_bytes code false n ++ t) (behind_run code m ws ++ xs)
  longer_above n m [] t xs h below = rw (ends_here m xs) (more_common_above false n m t xs h below)
  longer_above n m (w ∷ ws) t xs h below =
      three_ways (code.rank w) code.common
      (λ k. rw (goes_lower_with m w ws xs k) (more_common_above false n m t _ h below))
      (λ k. rw (goes_common code m w ws k) (longer_above n (suc m) ws t xs (omega (arith, h)) below))
      (λ k. rw (goes_higher_with m w ws xs k) (more_common_above true n m t _ h below))

  longer_below : (n m : ℕ) (ws : List W) (u xs : List ℕ) → n < m → BeginsAbove code.high u → IsBelow (behind_run code m ws ++ xs) (run_bytes code true n ++ u)
  longer_below n m [] u xs h above = rw (ends_here m xs) (more_common_below false n m u xs h above)
  longer_below n m (w ∷ ws) u xs h above =
      three_ways (code.rank w) code.common
      (λ k. rw (goes_lower_with m w ws xs k) (more_common_below false n m u _ h above))
      (λ k. rw (goes_common code m w ws k) (longer_below n (suc m) ws u xs (omega (arith, h)) above))
      (λ k. rw (goes_higher_with m w ws xs k) (more_common_below true n m u _ h above))

  begins_low : (xs : List ℕ) → BeginsUpTo end xs → BeginsBelow code.low xs
  begins_low [] h = tt
  begins_low (x ∷ xs) h = omega (arith, h, is.end_below)

  begins_low_with : (us xs : List ℕ) → BeginsAbove end us → BeginsBelow code.low us → BeginsBelow code.low (us ++ xs)
  begins_low_with [] xs h k = elim h [ ]
  begins_low_with (u ∷ us) xs h k = k

  -- a list below the end of a level, and one that begins with a lower weight
  lower_low : (s : S) (w : W) (ts : List ℕ) → IsOne s w → code.rank w < code.common → BeginsBelow code.low (code.bytes w ++ ts)
  lower_low s w ts one h = begins_low_with (code.bytes w) ts (is.after_end s w one h) (is.below_runs s w one h)

  higher_high : (s : S) (w : W) (ts : List ℕ) → IsOne s w → code.common < code.rank w → BeginsAbove code.high (code.bytes w ++ ts)
  higher_high s w ts one h = begins_with code.high (code.bytes w) ts (is.above_runs s w one h)

  -- two weights on one side of the common one, where what stands after equal ones orders as it should
  side_order :
      (s : S) (v w : W) (vs ws : List W) (xs ys : List ℕ) → IsOne s v → IsOne s w
      → (code.rank v < code.rank w → DiffersBelow (code.bytes v) (code.bytes w))
      → (code.rank w < code.rank v → DiffersBelow (code.bytes w) (code.bytes v))
      → (v ≡ w → slice_cmp nat_cmp (behind_run code 0 vs ++ xs) (behind_run code 0 ws ++ ys) ≡ ordering_then (list_order code.rank vs ws) (slice_cmp nat_cmp xs ys))
      → slice_cmp nat_cmp (code.bytes v ++ (behind_run code 0 vs ++ xs)) (code.bytes w ++ (behind_run code 0 ws ++ ys)) ≡ ordering_then (list_order code.rank (v ∷ vs) (w ∷ ws)) (slice_cmp nat_cmp xs ys)
  side_order s v w vs ws xs ys one other rises falls later =
      three_ways (code.rank v) (code.rank w)
      (λ h. rw (ranks_less code.rank v w vs ws h) (below_less _ _ (differs_below _ _ _ _ (rises h))))
      (λ h. let e : v ≡ w = is.same s v w one other h in rw (e, ranks_equal code.rank w vs ws) (behind_same (code.bytes w) _ _ ∙ later e))
      (λ h. rw (ranks_greater code.rank v w vs ws h) (below_greater _ _ (differs_below _ _ _ _ (falls h))))

  -- Levels after as many common weights order as the weights, and else as what stands after them.
  pub runs_order :
      (s : S) (n : ℕ) (vs ws : List W) (xs ys : List ℕ) → AllFrom IsOne next s vs → AllFrom IsOne next s ws → BeginsUpTo end xs → BeginsUpTo end ys
      → slice_cmp nat_cmp (behind_run code n vs ++ xs) (behind_run code n ws ++ ys) ≡ ordering_then (list_order code.rank vs ws) (slice_cmp nat_cmp xs ys)
  runs_order s n [] [] xs ys ones others low_xs low_ys = rw (ends_here n xs, ends_here n ys) (behind_same (run_bytes code false n) xs ys)
  runs_order s n [] (w ∷ ws) xs ys ones others low_xs low_ys =
      three_ways (code.rank w) code.common
      (λ k. rw (ends_here n xs, goes_lower_with n w ws ys k) (below_less _ _ (below_behind (run_bytes code false n) xs _ (end_below end xs _ low_xs (begins_with end _ _ (is.after_end s w others.0 k))))))
      (λ k. rw (ends_here n xs, goes_common code n w ws k) (below_less _ _ (longer_above n (suc n) ws xs ys (omega arith) (begins_low xs low_xs))))
      (λ k. rw (ends_here n xs, goes_higher_with n w ws ys k) (below_less _ _ (lower_before_higher n xs _ (begins_low xs low_xs) (higher_high s w _ others.0 k))))
  runs_order s n (v ∷ vs) [] xs ys ones others low_xs low_ys =
      three_ways (code.rank v) code.common
      (λ k. rw (ends_here n ys, goes_lower_with n v vs xs k) (below_greater _ _ (below_behind (run_bytes code false n) ys _ (end_below end ys _ low_ys (begins_with end _ _ (is.after_end s v ones.0 k))))))
      (λ k. rw (ends_here n ys, goes_common code n v vs k) (below_greater _ _ (longer_above n (suc n) vs ys xs (omega arith) (begins_low ys low_ys))))
      (λ k. rw (ends_here n ys, goes_higher_with n v vs xs k) (below_greater _ _ (lower_before_higher n ys _ (begins_low ys low_ys) (higher_high s v _ ones.0 k))))
  runs_order s n (v ∷ vs) (w ∷ ws) xs ys ones others low_xs low_ys =
      three_ways (code.rank v) code.common
      (λ j. three_ways (code.rank w) code.common
      (λ k. rw (goes_lower_with n v vs xs j, goes_lower_with n w ws ys k) (behind_same (run_bytes code false n) _ _ ∙ side_order s v w vs ws xs ys ones.0 others.0 (λ h. is.lower_rises s v w ones.0 others.0 h k) (λ h. is.lower_rises s w v others.0 ones.0 h j) (λ e. runs_order (next s w) 0 vs ws xs ys (subst (λ (u : W). AllFrom IsOne next (next s u) vs) e ones.1) others.1 low_xs low_ys)))
      (λ k. rw (goes_lower_with n v vs xs j, goes_common code n w ws k, ranks_less code.rank v w vs ws (omega (arith, j, k))) (below_less _ _ (longer_above n (suc n) ws _ ys (omega arith) (lower_low s v _ ones.0 j))))
      (λ k. rw (goes_lower_with n v vs xs j, goes_higher_with n w ws ys k, ranks_less code.rank v w vs ws (omega (arith, j, k))) (below_less _ _ (lower_before_higher n _ _ (lower_low s v _ ones.0 j) (higher_high s w _ others.0 k)))))
      (λ j. three_ways (code.rank w) code.common
      (λ k. rw (goes_common code n v vs j, goes_lower_with n w ws ys k, ranks_greater code.rank v w vs ws (omega (arith, j, k))) (below_greater _ _ (longer_above n (suc n) vs _ xs (omega arith) (lower_low s w _ others.0 k))))
      (λ k. let e : v ≡ w = is.same s v w ones.0 others.0 (j ∙ sym k) in
      rw (goes_common code n v vs j, goes_common code n w ws k) (runs_order (next s w) (suc n) vs ws xs ys (subst (λ (u : W). AllFrom IsOne next (next s u) vs) e ones.1) others.1 low_xs low_ys ∙ ap (λ o. ordering_then o (slice_cmp nat_cmp xs ys)) (sym (rw e (ranks_equal code.rank w vs ws)))))
      (λ k. rw (goes_common code n v vs j, goes_higher_with n w ws ys k, ranks_less code.rank v w vs ws (omega (arith, j, k))) (below_less _ _ (longer_below n (suc n) vs _ xs (omega arith) (higher_high s w _ others.0 k)))))
      (λ j. three_ways (code.rank w) code.common
      (λ k. rw (goes_higher_with n v vs xs j, goes_lower_with n w ws ys k, ranks_greater code.rank v w vs ws (omega (arith, j, k))) (below_greater _ _ (lower_before_higher n _ _ (lower_low s w _ others.0 k) (higher_high s v _ ones.0 j))))
      (λ k. rw (goes_higher_with n v vs xs j, goes_common code n w ws k, ranks_greater code.rank v w vs ws (omega (arith, j, k))) (below_greater _ _ (longer_below n (suc n) ws _ ys (omega arith) (higher_high s v _ ones.0 j))))
      (λ k. rw (goes_higher_with n v vs xs j, goes_higher_with n w ws ys k) (behind_same (run_bytes code true n) _ _ ∙ side_order s v w vs ws xs ys ones.0 others.0 (λ h. is.higher_rises s v w ones.0 others.0 h j) (λ h. is.higher_rises s w v others.0 ones.0 h k) (λ e. runs_order (next s w) 0 vs ws xs ys (subst (λ (u : W). AllFrom IsOne next (next s u) vs) e ones.1) others.1 low_xs low_ys))))
