-- Levels as they are written by the ranks of their weights.
use Rattle.std.proofs.Common.{◌≡◌, ◌≢◌, ℕ, zero, suc, ◌<◌, ◌≤◌, ◌+◌, ◌-◌, ◌/◌, ◌%◌, Bool, true, false, cond, Option, Some, None, List, [], ◌∷◌, ◌++◌, length, drop, get_or, replicate, refl, sym, ◌∙◌, ap, arith, append_assoc, add-one, ltb, ⊎_elim}
use Rattle.std.specs.List.{cons_option}
use Rattle.std.proofs.lemmas.List.{drop_more, drop_all}
use Rattle.std.proofs.lemmas.Bool.{cases_lt}
use Rattle.std.proofs.lemmas.Bool.Decides.{nat_tests}
use Rattle.icu_collator.specs.KeyBytes.{RunCode, run_bytes, behind_run, with_runs}
use Rattle.icu_collator.specs.KeyCodes.{AddsGiven, AddsWeight, code_of}
use Rattle.icu_collator.specs.declared.key_bytes.run_level.RunLevel.{RunLevel}
use Rattle.icu_collator.specs.declared.key_bytes.run_level.RunLevel.TheVariants.{Secondaries, LowerCases, UpperCases, Tertiaries, LowerFirst, UpperFirst, Quaternaries}
use Rattle.icu_collator.proofs.keys.RunCodeLemmas.{goes_lower, goes_common, goes_higher}

-- a common weight waits
pub adds_common :
    (code : RunCode ℕ) (rank pending now : ℕ) (bytes : List ℕ) → code.rank rank ≡ code.common → now ≡ pending + 1 → AddsWeight code rank pending bytes now bytes
adds_common code rank pending now bytes same is =
    record {
      level = λ ws. ap (λ l. bytes ++ l) (ap (λ n. behind_run code n ws) (is ∙ add-one pending) ∙ sym (goes_common code pending rank ws same));
      count = omega (arith, is);
    }

-- a lower or a higher one is written after the run before it
pub adds_lower :
    (code : RunCode ℕ) (rank pending : ℕ) (before between after : List ℕ) → code.rank rank < code.common
    → between ≡ before ++ run_bytes code false pending → after ≡ between ++ code.bytes rank → AddsWeight code rank pending before 0 after
adds_lower code rank pending before between after lower run weight =
    record {
      level = λ ws. ap (λ l. l ++ behind_run code 0 ws) (weight ∙ ap (λ l. l ++ code.bytes rank) run)
          ∙ append_assoc (before ++ run_bytes code false pending) (code.bytes rank) (behind_run code 0 ws)
          ∙ append_assoc before (run_bytes code false pending) (code.bytes rank ++ behind_run code 0 ws)
          ∙ ap (λ l. before ++ l) (sym (goes_lower code pending rank ws lower));
      count = omega arith;
    }

pub adds_higher :
    (code : RunCode ℕ) (rank pending : ℕ) (before between after : List ℕ) → code.common < code.rank rank
    → between ≡ before ++ run_bytes code true pending → after ≡ between ++ code.bytes rank → AddsWeight code rank pending before 0 after
adds_higher code rank pending before between after higher run weight =
    record {
      level = λ ws. ap (λ l. l ++ behind_run code 0 ws) (weight ∙ ap (λ l. l ++ code.bytes rank) run)
          ∙ append_assoc (before ++ run_bytes code true pending) (code.bytes rank) (behind_run code 0 ws)
          ∙ append_assoc before (run_bytes code true pending) (code.bytes rank ++ behind_run code 0 ws)
          ∙ ap (λ l. before ++ l) (sym (goes_higher code pending rank ws higher));
      count = omega arith;
    }

-- a run of one common weight and more
pub filled_run :
    {W : Type 0} (code : RunCode W) (is_below_next : Bool) (count : ℕ) → 0 < count
    → run_bytes code is_below_next count
    ≡ replicate ((count - 1) / code.most) code.middle ++ cond is_below_next (code.high - (count - 1) % code.most) (code.low + (count - 1) % code.most) ∷ []
unfolding run_bytes
filled_run code is_below_next zero some = let never : ⊥ = omega (arith, some) in absurd never
filled_run code is_below_next (suc n) some = let e : suc n - 1 ≡ n = omega arith in rw e refl

-- a level with its first weight taken
pub level_goes_on :
    (code : RunCode ℕ) (ranks : List ℕ) (i pending now : ℕ) (start before after : List ℕ) → i < length ranks
    → before ++ behind_run code pending (drop i ranks) ≡ start ++ with_runs code ranks → AddsWeight code (get_or ranks i 0) pending before now after
    → after ++ behind_run code now (drop (i + 1) ranks) ≡ start ++ with_runs code ranks
level_goes_on code ranks i pending now start before after inside so_far adds =
    adds.level (drop (i + 1) ranks) ∙ ap (λ l. before ++ behind_run code pending l) (sym (drop_more ranks i 0 inside)) ∙ so_far

-- a level with none left
pub level_ends :
    (code : RunCode ℕ) (ranks : List ℕ) (i pending : ℕ) (start before after : List ℕ) → length ranks ≤ i
    → before ++ behind_run code pending (drop i ranks) ≡ start ++ with_runs code ranks → after ≡ before ++ run_bytes code false pending
    → after ≡ start ++ with_runs code ranks
unfolding behind_run
level_ends code ranks i pending start before after past so_far run =
    run ∙ sym (ap (λ l. before ++ behind_run code pending l) (drop_all i ranks past)) ∙ so_far

pub rank_is : (level : RunLevel) (rank : ℕ) → (code_of level).rank rank ≡ rank
unfolding code_of
rank_is Secondaries rank = refl
rank_is LowerCases rank = refl
rank_is UpperCases rank = refl
rank_is Tertiaries rank = refl
rank_is LowerFirst rank = refl
rank_is UpperFirst rank = refl
rank_is Quaternaries rank = refl

-- a weight that isn't common is written after the run before it
pub adds_other :
    (code : RunCode ℕ) (rank common pending : ℕ) (before between after : List ℕ) → code.rank rank ≡ rank → common ≡ code.common → rank ≢ common
    → between ≡ before ++ run_bytes code (ltb common rank) pending → after ≡ between ++ code.bytes rank → AddsWeight code rank pending before 0 after
adds_other code rank common pending before between after is_rank is_common other run weight = ⊎_elim
    (λ higher.
    let test : ltb common rank ≡ true = grind (arith, nat_tests) in
    adds_higher code rank pending before between after (omega (arith, is_rank, is_common, higher)) (run ∙ ap (λ b. before ++ run_bytes code b pending) test) weight)
    (λ not_higher.
    let test : ltb common rank ≡ false = grind (arith, nat_tests) in
    adds_lower code rank pending before between after (omega (arith, is_rank, is_common, not_higher, other)) (run ∙ ap (λ b. before ++ run_bytes code b pending) test) weight)
    (cases_lt common rank)

-- an element that gives nothing, and one that gives a weight
pub adds_none : (code : RunCode ℕ) (given : Option ℕ) (pending : ℕ) (bytes : List ℕ) → given ≡ None → AddsGiven code given pending bytes pending bytes
adds_none code given pending bytes none =
    record { level = λ ws. ap (λ g. bytes ++ behind_run code pending (cons_option g ws)) (sym none); count = omega arith }

pub adds_some :
    (code : RunCode ℕ) (given : Option ℕ) (rank pending now : ℕ) (before after : List ℕ) → given ≡ Some rank → AddsWeight code rank pending before now after
    → AddsGiven code given pending before now after
adds_some code given rank pending now before after some adds =
    record { level = λ ws. adds.level ws ∙ ap (λ g. before ++ behind_run code pending (cons_option g ws)) (sym some); count = adds.count }
