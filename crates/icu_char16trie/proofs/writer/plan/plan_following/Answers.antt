use Rattle.std.proofs.Common.{◌+◌, ◌-◌, ◌≡◌, arith, ap, ◌∙◌, sym, subst}
use Rattle.icu_char16trie.specs.UnitPairs.{AreGroups, rests, parts, spread}
use Rattle.icu_char16trie.specs.UnitWritingTasks.{weight}
use Rattle.icu_char16trie.proofs.Pairs.SortedPairLemmas.{rests_length}
use Rattle.icu_char16trie.proofs.Writing.LayoutLemmas.{no_key, run_room, run_sorted, run_units, parts_length, parts_bound, groups_some}
use Rattle.icu_char16trie.proofs.Writing.TaskLemmas.{run_adds, few_adds, many_adds, head_weight}
use Rattle.icu_char16trie.proofs.writer.plan.plan_following.Goals as goal

pub returns-then-run-gt0-clause-adds : goal.returns-then-run-gt0-clause-adds
returns-then-run-gt0-clause-adds c =
    let same = c.run_length-run.ensures.same in
    run_adds c.run_length-run.result c.args.depth c.args.value c.args.pairs _ same.0 c.args.tasks.now c.plan_head.new.tasks c.put.new.self c.put-then-run-gt0.new.self
    c.in_ok-plan_head.ensures c.in_ok-put.ensures c.in_ok-put-2.ensures
    same.1 c.if-run-gt0.true c.run_length-run.ensures.bound same.2
    (run_units c.args.depth c.run_length-run.result c.args.pairs.now no_key same.0 c.requires.some same.1 same.2)
    c.requires.some (run_sorted c.args.depth c.run_length-run.result c.args.pairs.now same.0 same.2 c.requires.sorted)
    (run_room c.args.depth c.run_length-run.result c.args.pairs.now same.0 c.requires.some same.1 same.2) c.requires.deep

pub returns-then-run-gt0-clause-weight : goal.returns-then-run-gt0-clause-weight
returns-then-run-gt0-clause-weight c =
    let same = c.run_length-run.ensures.same in
    let fall = run_room c.args.depth c.run_length-run.result c.args.pairs.now same.0 c.requires.some same.1 same.2 in
    let positive = c.if-run-gt0.true in
    let head = ap weight c.in_ok-plan_head.ensures in
    let one = head_weight (0x2f + c.run_length-run.result) c.args.value c.args.tasks.now in
    let run = ap weight c.in_ok-put.ensures in
    let node = ap weight c.in_ok-put-2.ensures in
    omega (arith, fall, positive, head, one, run, node)

pub returns-then-last-lt48-clause-adds : goal.returns-then-last-lt48-clause-adds
returns-then-last-lt48-clause-adds c =
    let value = c.deref.ensures.value in
    let groups : AreGroups 0 0x10000 (parts c.args.depth c.deref.result.now) = subst (λ groups. AreGroups 0 0x10000 (parts c.args.depth groups)) (sym value) c.in_ok-groups.ensures.groups in
    let pairs : spread (parts c.args.depth c.deref.result.now) ≡ rests c.args.depth c.args.pairs.now = ap (λ groups. spread (parts c.args.depth groups)) value ∙ c.in_ok-groups.ensures.pairs in
    let length_is = parts_length c.args.depth c.deref.result.now in
    let len = c.deref.ensures.len in
    let last = c.len-last.ensures in
    let first = c.if-last-gt0.true in
    few_adds (c.len-last.result - 1) c.args.value c.args.tasks.now c.plan_head-then-last-lt48.new.tasks c.plan_branch.new.tasks (parts c.args.depth c.deref.result.now) (rests c.args.depth c.args.pairs.now)
    c.in_ok-plan_head-2.ensures c.in_ok-plan_branch.ensures.adds first c.if-last-lt48.true (omega (arith, length_is, len, last, first)) groups pairs

pub overflow_cast-last-2 : goal.overflow_cast-last-2
overflow_cast-last-2 c =
    let bound = parts_bound c.args.depth c.in_ok-groups.groups.items c.in_ok-groups.ensures.groups in
    let last = c.len-last.ensures in
    omega (arith, bound, last)

pub returns-clause-adds : goal.returns-clause-adds
returns-clause-adds c =
    let value = c.deref-2.ensures.value in
    let groups : AreGroups 0 0x10000 (parts c.args.depth c.deref-2.result.now) = subst (λ groups. AreGroups 0 0x10000 (parts c.args.depth groups)) (sym value) c.in_ok-groups.ensures.groups in
    let pairs : spread (parts c.args.depth c.deref-2.result.now) ≡ rests c.args.depth c.args.pairs.now = ap (λ groups. spread (parts c.args.depth groups)) value ∙ c.in_ok-groups.ensures.pairs in
    let length_is = parts_length c.args.depth c.deref-2.result.now in
    let count = rests_length c.args.depth c.args.pairs.now in
    let given = c.requires.some in
    let some = groups_some (parts c.args.depth c.deref-2.result.now) (rests c.args.depth c.args.pairs.now) pairs (omega (arith, count, given)) in
    let len = c.deref-2.ensures.len in
    let last = c.len-last.ensures in
    many_adds (c.len-last.result - 1) c.args.value c.args.tasks.now c.plan_head-2.new.tasks c.put-2.new.self c.plan_branch-2.new.tasks (parts c.args.depth c.deref-2.result.now) (rests c.args.depth c.args.pairs.now)
    c.in_ok-plan_head-3.ensures c.in_ok-put-3.ensures c.in_ok-plan_branch-2.ensures.adds (omega (arith, length_is, len, last, some)) groups pairs
