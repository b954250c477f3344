use Rattle.std.proofs.Common.{◌≤◌, ◌+◌, ◌++◌, ◌∙◌, Bool, Some, ap, filter_map, length, arith, refl, subst, sym, true}
use Rattle.icu_collator.specs.KeyBytes.{with_runs}
use Rattle.icu_collator.specs.KeyCodes.{code_of}
use Rattle.icu_collator.specs.LevelLists.{counted_list, has_sound_case}
use Rattle.icu_collator.proofs.key_writing.GivenLevelLemmas.{passes_at, runs_go_on, runs_end}
use Rattle.icu_collator.proofs.key_writing.RankedRunLemmas.{adds_common, adds_some, rank_is}
use Rattle.icu_collator.proofs.key_bytes.runs.write_given_runs.Goals as goal

pub write_given-requires-clause-rank : goal.write_given-requires-clause-rank
write_given-requires-clause-rank g c =
    c.requires.small _ _ c.given-rank.ensures
    (ap has_sound_case c.counted_element-in-loop-element.ensures
    ∙ passes_at has_sound_case c.args.variable_end c.args.elements.now c.loop-element.element-index c.element-item.result c.loop-element-test.true c.element-item.is
    c.requires.cases)

pub loop-element-preserved-then-is_common : goal.loop-element-preserved-then-is_common
loop-element-preserved-then-is_common g c =
    let code = code_of c.args.level in
    let pending = c.loop-element.pending in
    let counted = c.counted_element.result in
    let is = subst (λ (answer : Bool). goal.G-post g c.args.is_common counted answer) c.if-is_common.true c.is_common.ensures in
    let adds = adds_some code (Some code.common) code.common pending (pending + 1) c.loop-element.key.items c.loop-element.key.items refl
    (adds_common code code.common pending (pending + 1) c.loop-element.key.items (rank_is c.args.level code.common) refl) in
    record {
      count = let before = c.loop-element.invariant.count in omega (arith, before);
      level = λ at says common.
          runs_go_on at c.args.variable_end c.args.elements.now code c.loop-element.element-index c.element-item.result pending (pending + 1) (Some code.common)
          (c.args.key.now.items ++ with_runs code (filter_map at (counted_list c.args.variable_end c.args.elements.now)))
          c.loop-element.key.items c.loop-element.key.items c.loop-element-test.true c.element-item.is
          (sym (common counted is) ∙ ap at c.counted_element.ensures) (c.loop-element.invariant.level at says common) adds;
    }

pub loop-element-preserved : goal.loop-element-preserved
loop-element-preserved g c =
    let adds = c.in_ok-pending.ensures in
    record {
      count = let most = adds.count in let before = c.loop-element.invariant.count in omega (arith, most, before);
      level = λ at says common.
          runs_go_on at c.args.variable_end c.args.elements.now (code_of c.args.level) c.loop-element.element-index c.element-item.result c.loop-element.pending
          c.in_ok-pending.pending c.given-rank.result
          (c.args.key.now.items ++ with_runs (code_of c.args.level) (filter_map at (counted_list c.args.variable_end c.args.elements.now)))
          c.loop-element.key.items c.write_given.new.key.items c.loop-element-test.true c.element-item.is
          (says _ _ c.given-rank.ensures ∙ ap at c.counted_element-in-loop-element.ensures) (c.loop-element.invariant.level at says common) adds;
    }

pub returns : goal.returns
returns g c = λ at says common.
    let past : length c.args.elements.now ≤ c.loop-element.element-index = let end = c.loop-element-test.false in omega (arith, end) in
    runs_end at c.args.variable_end c.args.elements.now (code_of c.args.level) c.loop-element.element-index c.loop-element.pending
    (c.args.key.now.items ++ with_runs (code_of c.args.level) (filter_map at (counted_list c.args.variable_end c.args.elements.now)))
    c.loop-element.key.items c.write_run.new.key.items past (c.loop-element.invariant.level at says common) c.in_ok-write_run.ensures
