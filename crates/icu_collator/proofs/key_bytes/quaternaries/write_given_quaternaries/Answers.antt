use Rattle.std.proofs.Common.{◌≡◌, ◌<◌, ◌≤◌, ◌+◌, ◌^◌, ◌++◌, ◌∙◌, ℕ, Option, None, Some, ap, arith, filter_map, length, ltb, sym, take, true}
use Rattle.std.specs.List.{list_all}
use Rattle.std.specs.Prelude.{IfSome, option_map}
use Rattle.std.proofs.lemmas.Bool.Decides.{nat_tests}
use Rattle.std.proofs.lemmas.List.{take_all}
use Rattle.icu_collator.specs.Collators.{source_collation}
use Rattle.icu_collator.specs.KeyBytes.{with_runs}
use Rattle.icu_collator.specs.KeyCodes.{code_of, gives_small_place, rank_limit}
use Rattle.icu_collator.specs.LevelLists.{counted_by, counted_list}
use Rattle.icu_collator.specs.Levels.{quaternary_at}
use Rattle.icu_collator.specs.Order.{quaternary_rank}
use Rattle.icu_collator.specs.Shifted.{Counted}
use Rattle.icu_collator.specs.declared.key_bytes.run_level.RunLevel.TheVariants.{Quaternaries}
use Rattle.icu_collator.proofs.key_writing.GivenLevelLemmas.{runs_end, runs_go_on}
use Rattle.icu_collator.proofs.lists.CollatorListLemmas.{ranks_by}
use Rattle.icu_collator.proofs.lists.ListGivenLemmas.{all_given, counted_more, more_pass}
use Rattle.icu_collator.proofs.key_bytes.quaternaries.write_given_quaternaries.Goals as goal

below : (o : Option ℕ) (n : ℕ) → IfSome o (λ r. ltb r n ≡ true) → IfSome o (λ r. r < n)
below None n h = tt
below (Some r) n h = grind (arith, nat_tests)

pub write_wide_given-requires-clause-rank : goal.write_wide_given-requires-clause-rank
unfolding rank_limit
write_wide_given-requires-clause-rank c = below c.quaternary_rank_at-rank.result (2 ^ 32 + 4) c.quaternary_rank_at-rank.ensures.bound

pub loop-element-preserved : goal.loop-element-preserved
loop-element-preserved c =
    let collation = source_collation c.args.checked.now in
    let end = c.args.variable_end in
    let xs = c.args.elements.now in
    let i = c.loop-element.element-index in
    let x = c.element-item.result in
    let at = λ (e : Counted). option_map quaternary_rank (quaternary_at collation e) in
    let adds = c.in_ok-pending.ensures in
    record {
      count = let most = adds.count in let before = c.loop-element.invariant.count in omega (arith, most, before);
      small = more_pass (λ e. gives_small_place (quaternary_at collation e)) (counted_list end (take i xs)) _ (counted_by end x)
          (counted_more end xs i x c.loop-element-test.true c.element-item.is) c.loop-element.invariant.small
          (sym (ap (λ e. gives_small_place (quaternary_at collation e)) c.counted_element.ensures) ∙ c.quaternary_rank_at-rank.ensures.small);
      level = runs_go_on at end xs (code_of Quaternaries) i x c.loop-element.pending c.in_ok-pending.pending c.quaternary_rank_at-rank.result
          (c.args.key.now.items ++ with_runs (code_of Quaternaries) (filter_map at (counted_list end xs)))
          c.loop-element.key.items c.write_wide_given.new.key.items c.loop-element-test.true c.element-item.is
          (c.quaternary_rank_at-rank.ensures.rank ∙ ap at c.counted_element.ensures) c.loop-element.invariant.level adds;
    }

pub returns-clause-written : goal.returns-clause-written
returns-clause-written c =
    let collation = source_collation c.args.checked.now in
    let end = c.args.variable_end in
    let xs = c.args.elements.now in
    let at = λ (e : Counted). option_map quaternary_rank (quaternary_at collation e) in
    let past : length xs ≤ c.loop-element.element-index = let done = c.loop-element-test.false in omega (arith, done) in
    runs_end at end xs (code_of Quaternaries) c.loop-element.element-index c.loop-element.pending
    (c.args.key.now.items ++ with_runs (code_of Quaternaries) (filter_map at (counted_list end xs)))
    c.loop-element.key.items c.write_run.new.key.items past c.loop-element.invariant.level c.in_ok-write_run.ensures
    ∙ ap (λ ranks. c.args.key.now.items ++ with_runs (code_of Quaternaries) ranks) (ranks_by quaternary_rank (quaternary_at collation) (counted_list end xs))

pub returns-clause-small : goal.returns-clause-small
returns-clause-small c =
    let collation = source_collation c.args.checked.now in
    let end = c.args.variable_end in
    let xs = c.args.elements.now in
    all_given (quaternary_at collation) (counted_list end xs)
    (sym (ap (λ items. list_all (λ e. gives_small_place (quaternary_at collation e)) (counted_list end items)) (take_all c.loop-element.element-index xs c.loop-element-test.false))
    ∙ c.loop-element.invariant.small)
