-- The primary level of a key orders as the primaries do, with leads left out in runs.
use Rattle.std.proofs.Common.{◌≡◌, ◌≢◌, ℕ, ◌<◌, ◌≤◌, ◌/◌, ◌%◌, ◌^◌, Bool, true, false, cond, ltb, List, [], ◌∷◌, ◌++◌, Option, None, Some, refl, sym, ◌∙◌, ap, arith, inl, inr}
use Rattle.std.proofs.lemmas.Bool.Decides.{nat_tests}
use Rattle.std.specs.Prelude.{◌==◌}
use Rattle.std.specs.Cmp.Lexicographic.{slice_cmp}
use Rattle.std.specs.Ordering.{nat_cmp, ordering_then}
use Rattle.icu_collator_core.specs.WeightRules.{primary_bytes, primary_rest, is_proper_beginning}
use Rattle.icu_collator.specs.Order.{list_order}
use Rattle.icu_collator.specs.KeyBytes.{codes_from, primary_code, primary_run}
use Rattle.icu_collator.proofs.keys.CodesLemmas.{DiffersBelow, BeginsUpTo, BeginsAbove, AllFrom, IsOrderCode, codes_order}
use Rattle.icu_collator.proofs.keys.WeightBytesLemmas.{primaries_differ, rests_differ, rest_first}

-- the second byte of a primary leaves room below and above
abbrev pub HasRoom : ℕ → Type 0
HasRoom p = (4 ≤ p / 2 ^ 16 % 256) × (p / 2 ^ 16 % 256 ≤ 0xfe)

-- The primaries that may stand in each state, as at the beginning of a number or in it: none begins another, and under the
-- lead of one that starts a run the second byte leaves room.
pub record ArePrimaries {S : Type 0} (IsPrimary : S → ℕ → Type 0) (starts_run : ℕ → Bool) : Type 0 where
  pub lead : (s : S) (p : ℕ) → IsPrimary s p → 2 ≤ p / 2 ^ 24
  pub small : (s : S) (p : ℕ) → IsPrimary s p → p < 2 ^ 32
  pub apart : (s : S) (p q : ℕ) → IsPrimary s p → IsPrimary s q → is_proper_beginning (primary_bytes p) (primary_bytes q) ≡ false
  pub second : (s t : S) (p q : ℕ) → IsPrimary s p → IsPrimary t q → starts_run p ≡ true → q / 2 ^ 24 ≡ p / 2 ^ 24 → HasRoom q

-- where no primary starts a run, so that each is only apart from the others
abbrev pub none_starts : ℕ → Bool
none_starts p = false

-- the four ways to write a primary after a run
data Behind (before p : ℕ) : List ℕ → Type 0 where
  inside : p / 2 ^ 24 ≡ before → Behind before p (primary_rest p)
  above : before < p / 2 ^ 24 → Behind before p (0xff ∷ primary_bytes p)
  below : p / 2 ^ 24 < before → p / 2 ^ 24 ≢ 2 → Behind before p (0x03 ∷ primary_bytes p)
  lowest : p / 2 ^ 24 < before → p / 2 ^ 24 ≡ 2 → Behind before p (primary_bytes p)

by_cases : {A : Type 0} (P : A → Type 0) (b : Bool) (x y : A) → (b ≡ true → P x) → (b ≡ false → P y) → P (cond b x y)
by_cases P true x y t f = t refl
by_cases P false x y t f = f refl

behind : (before p : ℕ) → Behind before p (primary_code (Some before) p)
unfolding primary_code
behind before p =
    by_cases (Behind before p) (p / 2 ^ 24 == before) _ _ (λ h. inside (grind (arith, nat_tests)))
    (λ h. by_cases (λ end. Behind before p (end ++ primary_bytes p)) (ltb before (p / 2 ^ 24)) _ _ (λ k. above (grind (arith, nat_tests)))
    (λ k. by_cases (λ end. Behind before p (end ++ primary_bytes p)) (p / 2 ^ 24 == 2) _ _ (λ l. lowest (grind (arith, nat_tests)) (grind (arith, nat_tests)))
    (λ l. below (grind (arith, nat_tests)) (λ e. grind (arith, nat_tests, e)))))

module _ {S : Type 0} (IsPrimary : S → ℕ → Type 0) (nextp : S → ℕ → S) (starts_run : ℕ → Bool) (are : ArePrimaries IsPrimary starts_run) where
  abbrev pub State : Type 0
  State = Option ℕ × S

  -- under this lead each primary has room
  abbrev pub IsRoomy : ℕ → Type 0
  IsRoomy before = (s : S) (p : ℕ) → IsPrimary s p → p / 2 ^ 24 ≡ before → HasRoom p

  abbrev pub IsRun : Option ℕ → Type 0
  IsRun None = Unit {0}
  IsRun (Some before) = IsRoomy before

  abbrev pub IsPrimaryAt : State → ℕ → Type 0
  IsPrimaryAt state p = IsRun (state.0) × IsPrimary (state.1) p

  abbrev code : State → ℕ → List ℕ
  code state p = primary_code (state.0) p

  abbrev pub next : State → ℕ → State
  next state p = (primary_run starts_run (state.0) p, nextp (state.1) p)

  starts_low : (before p : ℕ) (s : S) (a : ℕ) (ys : List ℕ) → a < 4 → IsPrimary s p → IsRoomy before → p / 2 ^ 24 ≡ before → DiffersBelow (a ∷ ys) (primary_rest p)
  starts_low before p s a ys h one run e =
      let room = run s p one e in
      let first = rest_first p (omega (arith, room.0)) in
      rw (first.1) (inl (omega (arith, h, room.0)))

  ends_high : (before p : ℕ) (s : S) (ys : List ℕ) → IsPrimary s p → IsRoomy before → p / 2 ^ 24 ≡ before → DiffersBelow (primary_rest p) (0xff ∷ ys)
  ends_high before p s ys one run e =
      let room = run s p one e in
      let first = rest_first p (omega (arith, room.0)) in
      rw (first.1) (inl (omega (arith, room.1)))

  behind_below :
      (before p q : ℕ) (s : S) {xs ys : List ℕ} → IsRoomy before → IsPrimary s p → IsPrimary s q → p < q
      → Behind before p xs → Behind before q ys → DiffersBelow xs ys
  behind_below before p q s run one other h (inside a) (inside b) = rests_differ p q h (a ∙ sym b) (are.apart s p q one other)
  behind_below before p q s run one other h (inside a) (above b) = ends_high before p s (primary_bytes q) one run a
  behind_below before p q s run one other h (inside a) (below b c) = let never : ⊥ = omega (arith, h, a, b) in absurd never
  behind_below before p q s run one other h (inside a) (lowest b c) = let never : ⊥ = omega (arith, h, a, b) in absurd never
  behind_below before p q s run one other h (above a) (inside b) = let never : ⊥ = omega (arith, h, a, b) in absurd never
  behind_below before p q s run one other h (above a) (above b) = inr (refl, primaries_differ p q h (are.apart s p q one other))
  behind_below before p q s run one other h (above a) (below b c) = let never : ⊥ = omega (arith, h, a, b) in absurd never
  behind_below before p q s run one other h (above a) (lowest b c) = let never : ⊥ = omega (arith, h, a, b) in absurd never
  behind_below before p q s run one other h (below a d) (inside b) = starts_low before q s 3 (primary_bytes p) (omega arith) other run b
  behind_below before p q s run one other h (below a d) (above b) = inl (omega arith)
  behind_below before p q s run one other h (below a d) (below b c) = inr (refl, primaries_differ p q h (are.apart s p q one other))
  behind_below before p q s run one other h (below a d) (lowest b c) = let never : ⊥ = d (omega (arith, h, c, are.lead s p one)) in absurd never
  behind_below before p q s run one other h (lowest a d) (inside b) = starts_low before q s (p / 2 ^ 24) (primary_rest p) (omega (arith, d)) other run b
  behind_below before p q s run one other h (lowest a d) (above b) = inl (omega (arith, d))
  behind_below before p q s run one other h (lowest a d) (below b c) = inl (omega (arith, d))
  behind_below before p q s run one other h (lowest a d) (lowest b c) = primaries_differ p q h (are.apart s p q one other)

  behind_begins : (before p : ℕ) (s : S) {xs : List ℕ} → IsRoomy before → IsPrimary s p → Behind before p xs → BeginsAbove 1 xs
  behind_begins before p s run one (inside a) =
      let room = run s p one a in
      let first = rest_first p (omega (arith, room.0)) in
      rw (first.1) (omega (arith, room.0))
  behind_begins before p s run one (above a) = omega arith
  behind_begins before p s run one (below a b) = omega arith
  behind_begins before p s run one (lowest a b) = omega (arith, b)

  rises : (run : Option ℕ) (s : S) (p q : ℕ) → IsRun run → IsPrimary s p → IsPrimary s q → p < q → DiffersBelow (primary_code run p) (primary_code run q)
  unfolding primary_code
  rises None s p q is one other h = primaries_differ p q h (are.apart s p q one other)
  rises (Some before) s p q is one other h = behind_below before p q s is one other h (behind before p) (behind before q)

  begins : (run : Option ℕ) (s : S) (p : ℕ) → IsRun run → IsPrimary s p → BeginsAbove 1 (primary_code run p)
  unfolding primary_code
  begins None s p is one = are.lead s p one
  begins (Some before) s p is one = behind_begins before p s is one (behind before p)

  primaries_code : IsOrderCode code (λ p. p) IsPrimaryAt 1
  primaries_code =
      record {
        same = λ s p q one other h. h;
        rises = λ s p q one other h. rises (s.0) (s.1) p q one.0 one.1 other.1 h;
        begins = λ s p one. begins (s.0) (s.1) p one.0 one.1;
      }

  same_codes : (run : Option ℕ) (s : S) (ps : List ℕ) → codes_from code next (run, s) ps ≡ codes_from primary_code (primary_run starts_run) run ps
  unfolding codes_from
  same_codes run s [] = refl
  same_codes run s (p ∷ ps) = ap (λ t. primary_code run p ++ t) (same_codes (primary_run starts_run run p) (nextp s p) ps)

  run_behind : (run : Option ℕ) (s : S) (p : ℕ) → IsPrimary s p → IsRun (primary_run starts_run run p)
  run_behind run s p one = by_cases IsRun (starts_run p) _ _ (λ h t q other e. are.second s t p q one other h e) (λ h. tt)

  stand : (run : Option ℕ) (s : S) (ps : List ℕ) → IsRun run → AllFrom IsPrimary nextp s ps → AllFrom IsPrimaryAt next (run, s) ps
  stand run s [] is all = tt
  stand run s (p ∷ ps) is all = ((is, all.0), stand (primary_run starts_run run p) (nextp s p) ps (run_behind run s p all.0) all.1)

  -- The primary levels of two keys order as the primaries, and else as what stands after them.
  pub primary_level_order :
      (s : S) (ps qs xs ys : List ℕ) → AllFrom IsPrimary nextp s ps → AllFrom IsPrimary nextp s qs → BeginsUpTo 1 xs → BeginsUpTo 1 ys
      → slice_cmp nat_cmp (codes_from primary_code (primary_run starts_run) None ps ++ xs) (codes_from primary_code (primary_run starts_run) None qs ++ ys) ≡ ordering_then (list_order (λ p. p) ps qs) (slice_cmp nat_cmp xs ys)
  primary_level_order s ps qs xs ys ones others low_xs low_ys =
      rw (sym (same_codes None s ps), sym (same_codes None s qs))
      (codes_order code next (λ p. p) IsPrimaryAt 1 primaries_code (None, s) ps qs xs ys (stand None s ps tt ones) (stand None s qs tt others) low_xs low_ys)
