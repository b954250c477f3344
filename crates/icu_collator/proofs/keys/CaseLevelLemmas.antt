-- The case level of a key orders as the cases do, where the levels are as long.
use Rattle.std.proofs.Common.{◌≡◌, ◌≢◌, ℕ, zero, suc, ◌<◌, ◌≤◌, ◌+◌, ◌*◌, ◌-◌, ◌/◌, ◌%◌, Bool, true, false, cond, List, [], ◌∷◌, ◌++◌, length, replicate, refl, sym, ◌∙◌, ap, arith, inl}
use Rattle.std.proofs.lemmas.List.{append-nil}
use Rattle.std.proofs.lemmas.Nat.{mod_below}
use mathlib.Core.Bool.{true≢false}
use Rattle.std.specs.Cmp.Lexicographic.{slice_cmp}
use Rattle.std.specs.List.{AllByRecursion}
use Rattle.std.specs.Ordering.{nat_cmp, ordering_then}
use Rattle.std.specs.declared.cmp.Ordering.TheVariants.{Equal}
use Rattle.icu_collator_types.specs.declared.options.ResolvedCollatorOptions.{ResolvedCollatorOptions}
use Rattle.icu_collator_types.specs.Options.{is_upper_first}
use Rattle.icu_collator.specs.Order.{list_order}
use Rattle.icu_collator.specs.KeyBytes.{RunCode, lower_case_code, upper_case_code, case_halves, paired_halves, with_runs, run_bytes, behind_run}
use Rattle.icu_collator.proofs.keys.CodesLemmas.{BeginsUpTo, AllFrom, end_below, less_is, equal_is, greater_is, below_less, below_greater, three_ways, then_equal}
use Rattle.icu_collator.proofs.keys.CommonAloneLemmas.{are_common, NoneBelow, alone_order}
use Rattle.icu_collator.proofs.keys.RunCodeLemmas.{IsRunCode, runs_order, goes_lower, goes_common, goes_higher}

abbrev pub IsCase : Unit {0} → ℕ → Type 0
IsCase s c = c ≤ 2

abbrev pub past : Unit {0} → ℕ → Unit {0}
past s c = tt

lower_code : IsRunCode lower_case_code IsCase 0
lower_code =
    record {
      some = omega arith;
      from_low = omega arith;
      from_high = omega arith;
      end_below = omega arith;
      same = λ s v w one other h. h;
      lower_rises = λ s v w one other h low. let never : ⊥ = omega (arith, low) in absurd never;
      higher_rises = λ s v w one other h high. inl (omega (arith, h));
      after_end = λ s w one low. omega arith;
      below_runs = λ s w one low. let never : ⊥ = omega (arith, low) in absurd never;
      above_runs = λ s w one high. omega (arith, high);
    }

upper_code : IsRunCode upper_case_code IsCase 0
upper_code =
    record {
      some = omega arith;
      from_low = omega arith;
      from_high = omega arith;
      end_below = omega arith;
      same = λ s v w one other h. h;
      lower_rises = λ s v w one other h low. inl (omega (arith, h));
      higher_rises = λ s v w one other h high. let never : ⊥ = omega (arith, h, high, other) in absurd never;
      after_end = λ s w one low. omega arith;
      below_runs = λ s w one low. omega (arith, low);
      above_runs = λ s w one high. let never : ⊥ = omega (arith, one, high) in absurd never;
    }

-- a half byte that may be written; 0 only fills the last byte
abbrev IsHalf : ℕ → Type 0
IsHalf h = (1 ≤ h) × (h ≤ 15)

-- pairs of halves order as the halves, and else as what stands after them
pairs_order :
    (hs ks xs ys : List ℕ) → AllByRecursion IsHalf hs → AllByRecursion IsHalf ks → BeginsUpTo 1 xs → BeginsUpTo 1 ys
    → slice_cmp nat_cmp (paired_halves hs ++ xs) (paired_halves ks ++ ys) ≡ ordering_then (slice_cmp nat_cmp hs ks) (slice_cmp nat_cmp xs ys)
unfolding paired_halves
pairs_order [] [] xs ys one other low_xs low_ys = refl
pairs_order [] (k ∷ []) xs ys one other low_xs low_ys = below_less _ _ (end_below 1 xs (k * 16 ∷ ys) low_xs (omega (arith, other.0)))
pairs_order [] (k ∷ l ∷ ks) xs ys one other low_xs low_ys = below_less _ _ (end_below 1 xs ((k * 16 + l) ∷ (paired_halves ks ++ ys)) low_xs (omega (arith, other.0)))
pairs_order (h ∷ []) [] xs ys one other low_xs low_ys = below_greater _ _ (end_below 1 ys (h * 16 ∷ xs) low_ys (omega (arith, one.0)))
pairs_order (h ∷ i ∷ hs) [] xs ys one other low_xs low_ys = below_greater _ _ (end_below 1 ys ((h * 16 + i) ∷ (paired_halves hs ++ xs)) low_ys (omega (arith, one.0)))
pairs_order (h ∷ []) (k ∷ []) xs ys one other low_xs low_ys =
    three_ways h k
    (λ a. rw (less_is (h * 16) (k * 16) (omega (arith, a)), less_is h k a) refl)
    (λ e. rw (e, equal_is (k * 16), equal_is k) refl)
    (λ a. rw (greater_is (k * 16) (h * 16) (omega (arith, a)), greater_is k h a) refl)
pairs_order (h ∷ []) (k ∷ l ∷ ks) xs ys one other low_xs low_ys =
    three_ways h k
    (λ a. rw (less_is (h * 16) (k * 16 + l) (omega (arith, a)), less_is h k a) refl)
    (λ e. rw (e, less_is (k * 16) (k * 16 + l) (omega (arith, other.1.0)), equal_is k) refl)
    (λ a. rw (greater_is (k * 16 + l) (h * 16) (omega (arith, a, other.1.0)), greater_is k h a) refl)
pairs_order (h ∷ i ∷ hs) (k ∷ []) xs ys one other low_xs low_ys =
    three_ways h k
    (λ a. rw (less_is (h * 16 + i) (k * 16) (omega (arith, a, one.1.0)), less_is h k a) refl)
    (λ e. rw (e, greater_is (k * 16) (k * 16 + i) (omega (arith, one.1.0)), equal_is k) refl)
    (λ a. rw (greater_is (k * 16) (h * 16 + i) (omega (arith, a)), greater_is k h a) refl)
pairs_order (h ∷ i ∷ hs) (k ∷ l ∷ ks) xs ys one other low_xs low_ys =
    three_ways h k
    (λ a. rw (less_is (h * 16 + i) (k * 16 + l) (omega (arith, a, one.1.0)), less_is h k a) refl)
    (λ e. three_ways i l
    (λ a. rw (e, less_is (k * 16 + i) (k * 16 + l) (omega (arith, a)), equal_is k, less_is i l a) refl)
    (λ f. rw (e, f, equal_is (k * 16 + l), equal_is k, equal_is l) (pairs_order hs ks xs ys one.1.1 other.1.1 low_xs low_ys))
    (λ a. rw (e, greater_is (k * 16 + l) (k * 16 + i) (omega (arith, a)), equal_is k, greater_is l i a) refl))
    (λ a. rw (greater_is (k * 16 + l) (h * 16 + i) (omega (arith, a, other.1.0)), greater_is k h a) refl)

-- ---- the halves that are written

append_halves : (hs ks : List ℕ) → AllByRecursion IsHalf hs → AllByRecursion IsHalf ks → AllByRecursion IsHalf (hs ++ ks)
append_halves [] ks one other = other
append_halves (h ∷ hs) ks one other = (one.0, append_halves hs ks one.1 other)

same_halves : (n h : ℕ) → IsHalf h → AllByRecursion IsHalf (replicate n h)
same_halves zero h one = tt
same_halves (suc n) h one = (one, same_halves n h one)

-- how a case is written
record WritesHalves (code : RunCode ℕ) : Type 0 where
  some : 0 < code.most
  middle : IsHalf code.middle
  from_low : 1 ≤ code.low
  to_low : code.low + code.most ≤ 16
  from_high : code.common ≡ 0 → (code.most ≤ code.high) × (code.high ≤ 15)
  others : (c : ℕ) → c ≤ 2 → code.rank c ≢ code.common → AllByRecursion IsHalf (code.bytes c)
  highest : (c : ℕ) → c ≤ 2 → code.common < code.rank c → code.common ≡ 0

module _ (code : RunCode ℕ) (is : WritesHalves code) where
  run_halves : (b : Bool) (n : ℕ) → (b ≡ true → code.common ≡ 0) → AllByRecursion IsHalf (run_bytes code b n)
  unfolding run_bytes
  run_halves b zero h = tt
  run_halves true (suc n) h =
      let high : (code.most ≤ code.high) × (code.high ≤ 15) = is.from_high (h refl) in
      append_halves (replicate (n / code.most) code.middle) ((code.high - n % code.most) ∷ []) (same_halves _ _ is.middle) ((omega (arith, high.0, mod_below n code.most is.some), omega (arith, high.1)), tt)
  run_halves false (suc n) h =
      append_halves (replicate (n / code.most) code.middle) ((code.low + n % code.most) ∷ []) (same_halves _ _ is.middle) ((omega (arith, is.from_low), omega (arith, is.to_low, mod_below n code.most is.some)), tt)

  behind_halves : (n : ℕ) (cs : List ℕ) → AllFrom IsCase past tt cs → AllByRecursion IsHalf (behind_run code n cs)
  unfolding behind_run
  behind_halves n [] all = run_halves false n (λ e. absurd (true≢false (sym e)))
  behind_halves n (c ∷ cs) all =
      three_ways (code.rank c) code.common
      (λ h. rw (goes_lower code n c cs h) (append_halves _ _ (run_halves false n (λ e. absurd (true≢false (sym e)))) (append_halves _ _ (is.others c all.0 (λ e. omega (arith, h, e))) (behind_halves 0 cs all.1))))
      (λ h. rw (goes_common code n c cs h) (behind_halves (suc n) cs all.1))
      (λ h. rw (goes_higher code n c cs h) (append_halves _ _ (run_halves true n (λ e. is.highest c all.0 h)) (append_halves _ _ (is.others c all.0 (λ e. omega (arith, h, e))) (behind_halves 0 cs all.1))))

lower_halves : WritesHalves lower_case_code
lower_halves =
    record {
      some = omega arith;
      middle = (omega arith, omega arith);
      from_low = omega arith;
      to_low = omega arith;
      from_high = λ e. (omega arith, omega arith);
      others = λ c one other. ((omega arith, omega (arith, one)), tt);
      highest = λ c one high. refl;
    }

upper_halves : WritesHalves upper_case_code
upper_halves =
    record {
      some = omega arith;
      middle = (omega arith, omega arith);
      from_low = omega arith;
      to_low = omega arith;
      from_high = λ e. let never : ⊥ = omega (arith, e) in absurd never;
      others = λ c one other. ((omega arith, omega (arith, one)), tt);
      highest = λ c one high. let never : ⊥ = omega (arith, one, high) in absurd never;
    }

-- ---- the level

case_order :
    (code : RunCode ℕ) → IsRunCode code IsCase 0 → WritesHalves code → (cs ds xs ys : List ℕ)
    → AllFrom IsCase past tt cs → AllFrom IsCase past tt ds → BeginsUpTo 1 xs → BeginsUpTo 1 ys
    → slice_cmp nat_cmp (paired_halves (with_runs code cs) ++ xs) (paired_halves (with_runs code ds) ++ ys) ≡ ordering_then (list_order code.rank cs ds) (slice_cmp nat_cmp xs ys)
case_order code is halves cs ds xs ys ones others low_xs low_ys =
    let plain : slice_cmp nat_cmp (with_runs code cs ++ []) (with_runs code ds ++ []) ≡ ordering_then (list_order code.rank cs ds) Equal = runs_order code IsCase past 0 is tt 0 cs ds [] [] ones others tt tt in
    let bare : slice_cmp nat_cmp (with_runs code cs) (with_runs code ds) ≡ ordering_then (list_order code.rank cs ds) Equal = rw (append-nil (with_runs code cs), append-nil (with_runs code ds)) at plain in
    pairs_order (with_runs code cs) (with_runs code ds) xs ys (behind_halves code halves 0 cs ones) (behind_halves code halves 0 ds others) low_xs low_ys
    ∙ ap (λ o. ordering_then o (slice_cmp nat_cmp xs ys)) (bare ∙ then_equal (list_order code.rank cs ds))

-- no half bytes where no case is
no_halves : (code : RunCode ℕ) → paired_halves (with_runs code []) ≡ []
unfolding paired_halves behind_run run_bytes
no_halves code = refl

none_below : (cs : List ℕ) → NoneBelow (λ c. c) 0 cs
none_below [] = tt
none_below (c ∷ cs) = (omega arith, none_below cs)

lower_order :
    (b c : Bool) (cs ds xs ys : List ℕ) → are_common (λ c. c) 0 cs ≡ b → are_common (λ c. c) 0 ds ≡ c → length cs ≡ length ds
    → AllFrom IsCase past tt cs → AllFrom IsCase past tt ds → BeginsUpTo 1 xs → BeginsUpTo 1 ys
    → slice_cmp nat_cmp (cond b [] (paired_halves (with_runs lower_case_code cs)) ++ xs) (cond c [] (paired_halves (with_runs lower_case_code ds)) ++ ys)
    ≡ ordering_then (list_order (λ c. c) cs ds) (slice_cmp nat_cmp xs ys)
lower_order b c cs ds xs ys h k long ones others low_xs low_ys =
    alone_order (λ (c : ℕ). c) 0 (λ es. paired_halves (with_runs lower_case_code es)) cs ds xs ys b c h k long (none_below cs) (none_below ds) (no_halves lower_case_code)
    (case_order lower_case_code lower_code lower_halves cs ds xs ys ones others low_xs low_ys)
    (case_order lower_case_code lower_code lower_halves [] ds xs ys tt others low_xs low_ys)
    (case_order lower_case_code lower_code lower_halves cs [] xs ys ones tt low_xs low_ys)

paired_where : (b : Bool) (hs : List ℕ) → paired_halves (cond b [] hs) ≡ cond b [] (paired_halves hs)
unfolding paired_halves
paired_where true hs = refl
paired_where false hs = refl

level_by :
    (is_upper : Bool) (cs ds xs ys : List ℕ) → length cs ≡ length ds
    → AllFrom IsCase past tt cs → AllFrom IsCase past tt ds → BeginsUpTo 1 xs → BeginsUpTo 1 ys
    → slice_cmp nat_cmp (paired_halves (cond is_upper (with_runs upper_case_code cs) (cond (are_common (λ c. c) 0 cs) [] (with_runs lower_case_code cs))) ++ xs)
    (paired_halves (cond is_upper (with_runs upper_case_code ds) (cond (are_common (λ c. c) 0 ds) [] (with_runs lower_case_code ds))) ++ ys)
    ≡ ordering_then (list_order (λ c. c) cs ds) (slice_cmp nat_cmp xs ys)
level_by true cs ds xs ys long ones others low_xs low_ys = case_order upper_case_code upper_code upper_halves cs ds xs ys ones others low_xs low_ys
level_by false cs ds xs ys long ones others low_xs low_ys =
    rw (paired_where (are_common (λ c. c) 0 cs) (with_runs lower_case_code cs), paired_where (are_common (λ c. c) 0 ds) (with_runs lower_case_code ds))
    (lower_order _ _ cs ds xs ys refl refl long ones others low_xs low_ys)

-- The case levels of two keys, which are as long, order as the cases, and else as what stands after them.
pub case_level_order :
    (options : ResolvedCollatorOptions) (cs ds xs ys : List ℕ) → length cs ≡ length ds
    → AllFrom IsCase past tt cs → AllFrom IsCase past tt ds → BeginsUpTo 1 xs → BeginsUpTo 1 ys
    → slice_cmp nat_cmp (paired_halves (case_halves options cs) ++ xs) (paired_halves (case_halves options ds) ++ ys) ≡ ordering_then (list_order (λ c. c) cs ds) (slice_cmp nat_cmp xs ys)
case_level_order options cs ds xs ys long ones others low_xs low_ys = level_by (is_upper_first options.case_first) cs ds xs ys long ones others low_xs low_ys
