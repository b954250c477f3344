use Rattle.std.proofs.Common.{◌+◌, [], ◌∷◌, ◌++◌, refl, ap, ◌∙◌, sym, arith, length-append}
use Rattle.icu_char16trie.specs.UnitPairs.{rests}
use Rattle.icu_char16trie.proofs.Pairs.SortedPairLemmas.{prefixed_none}
use Rattle.icu_char16trie.proofs.Pairs.GroupLemmas.{run_more, run_ends, run_parts}
use Rattle.icu_char16trie.proofs.writer.groups.run_length.Goals as goal

pub loop-run-init : goal.loop-run-init
loop-run-init c = ([], refl, ap (λ depth. rests depth c.args.pairs.now) (omega arith) ∙ sym (prefixed_none (rests (c.args.depth + 0) c.args.pairs.now)))

pub loop-run-preserved : goal.loop-run-preserved
loop-run-preserved c =
    let units = c.loop-run.invariant.0 in
    let l = length-append units (c.in-Some.unit ∷ []) in
    let e = c.loop-run.invariant.1 in (
      units ++ c.in-Some.unit ∷ [],
      omega (arith, l, e),
      run_more c.args.depth c.loop-run.run c.group_length.result c.in-Some.unit c.args.pairs.now (omega (arith, c.group_length.ensures.bound, c.if-group_length-pairs.false))
          c.group_length.ensures.same units c.loop-run.invariant.2,
    )

pub returns-in_default-clause-longest : goal.returns-in_default-clause-longest
returns-in_default-clause-longest c = λ less. run_ends (c.args.depth + c.loop-run.run) c.args.pairs.now c.requires.some c.in_default.ensures

pub returns-then-group_length-pairs-clause-longest : goal.returns-then-group_length-pairs-clause-longest
returns-then-group_length-pairs-clause-longest c = λ less.
    run_parts (c.args.depth + c.loop-run.run) c.group_length.result c.in-Some.unit c.args.pairs.now c.if-group_length-pairs.true c.in-Some.ensures c.group_length.ensures.other
