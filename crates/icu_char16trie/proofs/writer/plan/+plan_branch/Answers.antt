use Rattle.std.proofs.Common.{◌/◌, ◌<◌, length, drop, arith, ap, ◌∙◌, sym, ◌++◌}
use Rattle.icu_char16trie.specs.UnitPairs.{parts}
use Rattle.icu_char16trie.specs.UnitWritingTasks.{weight}
use Rattle.icu_char16trie.proofs.Writing.LayoutLemmas.{no_group, parts_length, parts_split, halves_at}
use Rattle.icu_char16trie.proofs.Writing.TaskLemmas.{halves_adds}
use Rattle.icu_char16trie.proofs.writer.plan.+plan_branch.Goals as goal

pub plan_branch-requires : goal.plan_branch-requires
plan_branch-requires t c =
    let many = c.if-groups-le5.false in
    let front = c.split_at.ensures.front_len in
    let back = c.split_at.ensures.back_len in
    let lower : 0 < length c.split_at.result.0.now = omega (arith, many, front) in
    let upper : 0 < length c.split_at.result.1.now = omega (arith, many, back) in
    let halves = halves_at c.args.depth (length c.args.groups.now / 2) c.args.groups.now c.split_at.result.0.now c.split_at.result.1.now no_group c.split_at.ensures.front c.split_at.ensures.back lower upper c.requires.groups in
    let sum = halves.sum in
    let deep = c.requires.deep in
    (omega (arith, c.decreases, many, back), (upper, (halves.upper, omega (arith, deep, sum))))

pub plan_branch-requires-2 : goal.plan_branch-requires-2
plan_branch-requires-2 t c =
    let many = c.if-groups-le5.false in
    let front = c.split_at.ensures.front_len in
    let back = c.split_at.ensures.back_len in
    let lower : 0 < length c.split_at.result.0.now = omega (arith, many, front) in
    let upper : 0 < length c.split_at.result.1.now = omega (arith, many, back) in
    let halves = halves_at c.args.depth (length c.args.groups.now / 2) c.args.groups.now c.split_at.result.0.now c.split_at.result.1.now no_group c.split_at.ensures.front c.split_at.ensures.back lower upper c.requires.groups in
    let sum = halves.sum in
    let deep = c.requires.deep in
    (omega (arith, c.decreases, many, front), (lower, (halves.lower, omega (arith, deep, sum))))

pub returns-clause-adds : goal.returns-clause-adds
returns-clause-adds t c =
    let many = c.if-groups-le5.false in
    let front = c.split_at.ensures.front_len in
    let back = c.split_at.ensures.back_len in
    let lower : 0 < length c.split_at.result.0.now = omega (arith, many, front) in
    let upper : 0 < length c.split_at.result.1.now = omega (arith, many, back) in
    let halves = halves_at c.args.depth (length c.args.groups.now / 2) c.args.groups.now c.split_at.result.0.now c.split_at.result.1.now no_group c.split_at.ensures.front c.split_at.ensures.back lower upper c.requires.groups in
    let lowers = parts_length c.args.depth c.split_at.result.0.now in
    let uppers = parts_length c.args.depth c.split_at.result.1.now in
    halves_adds _ c.args.tasks.now c.put.new.self c.put-2.new.self c.plan_branch.new.tasks c.put-3.new.self c.plan_branch-2.new.tasks
    (parts c.args.depth c.split_at.result.0.now) (parts c.args.depth c.split_at.result.1.now) (parts c.args.depth c.args.groups.now)
    c.in_ok-put.ensures c.in_ok-put-2.ensures c.in_ok-plan_branch.ensures.adds c.in_ok-put-3.ensures c.in_ok-plan_branch-2.ensures.adds
    (omega (arith, lowers, uppers, front, back, many)) (omega (arith, lowers, uppers, front, back))
    (parts_split c.args.depth (length c.args.groups.now / 2) c.args.groups.now
    ∙ ap (λ lower. parts c.args.depth lower ++ parts c.args.depth (drop (length c.args.groups.now / 2) c.args.groups.now)) (sym c.split_at.ensures.front)
    ∙ ap (λ upper. parts c.args.depth c.split_at.result.0.now ++ parts c.args.depth upper) (sym c.split_at.ensures.back))
    halves

pub returns-clause-weight : goal.returns-clause-weight
returns-clause-weight t c =
    let many = c.if-groups-le5.false in
    let front = c.split_at.ensures.front_len in
    let back = c.split_at.ensures.back_len in
    let lower : 0 < length c.split_at.result.0.now = omega (arith, many, front) in
    let upper : 0 < length c.split_at.result.1.now = omega (arith, many, back) in
    let halves = halves_at c.args.depth (length c.args.groups.now / 2) c.args.groups.now c.split_at.result.0.now c.split_at.result.1.now no_group c.split_at.ensures.front c.split_at.ensures.back lower upper c.requires.groups in
    let sum = halves.sum in
    let uppers = c.in_ok-plan_branch.ensures.weight in
    let lowers = c.in_ok-plan_branch-2.ensures.weight in
    let unit = ap weight c.in_ok-put.ensures in
    let delta = ap weight c.in_ok-put-2.ensures in
    let mark = ap weight c.in_ok-put-3.ensures in
    omega (arith, sum, uppers, lowers, unit, delta, mark)
