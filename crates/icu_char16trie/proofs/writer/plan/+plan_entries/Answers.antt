use Rattle.std.proofs.Common.{◌+◌, drop, arith, slice_index_or, ap, ◌∙◌, sym, subst, ◌∷◌}
use Rattle.icu_char16trie.specs.UnitPairs.{AreGroups, rests, parts, spread, room}
use Rattle.icu_char16trie.specs.UnitWritingTasks.{weight}
use Rattle.icu_char16trie.proofs.Writing.LayoutLemmas.{no_group, parts_length, parts_first, first_group, parts_alone}
use Rattle.icu_char16trie.proofs.Writing.TaskLemmas.{last_adds, value_adds, jump_adds, same_number}
use Rattle.icu_char16trie.proofs.writer.plan.+plan_entries.Goals as goal

pub returns-then-groups-eq1-clause-adds : goal.returns-then-groups-eq1-clause-adds
returns-then-groups-eq1-clause-adds t c =
    last_adds (slice_index_or c.args.groups.now 0 no_group).unit c.args.depth (slice_index_or c.args.groups.now 0 no_group).pairs c.args.tasks.now c.put.new.self c.put-then-groups-eq1.new.self (parts c.args.depth c.args.groups.now)
    c.in_ok-put.ensures c.in_ok-put-2.ensures (parts_alone c.args.depth c.args.groups.now no_group c.if-groups-eq1.true) c.requires.groups c.requires.deep

pub returns-then-groups-eq1-clause-weight : goal.returns-then-groups-eq1-clause-weight
returns-then-groups-eq1-clause-weight t c =
    let first = first_group (slice_index_or c.args.groups.now 0 no_group).unit (rests (c.args.depth + 1) (slice_index_or c.args.groups.now 0 no_group).pairs.now) (parts c.args.depth (drop 1 c.args.groups.now)) (parts c.args.depth c.args.groups.now)
    (parts_first c.args.depth c.args.groups.now no_group c.requires.some) c.requires.groups in
    let sum = first.sum in
    let some = first.some in
    let put = ap weight c.in_ok-put.ensures in
    let node = ap weight c.in_ok-put-2.ensures in
    omega (arith, sum, some, put, node)

pub plan_entries-requires : goal.plan_entries-requires
plan_entries-requires t c =
    let back = c.split_at.ensures.back in
    let count = c.split_at.ensures.back_len in
    let given = c.requires.some in
    let few = c.requires.few in
    let more = c.if-groups-eq1.false in
    let first = first_group (slice_index_or c.args.groups.now 0 no_group).unit (rests (c.args.depth + 1) (slice_index_or c.args.groups.now 0 no_group).pairs.now) (parts c.args.depth (drop 1 c.args.groups.now)) (parts c.args.depth c.args.groups.now)
    (parts_first c.args.depth c.args.groups.now no_group c.requires.some) c.requires.groups in
    let sum = first.sum in
    let rest = ap (λ groups. room (spread (parts c.args.depth groups))) back in
    let deep = c.requires.deep in (
      omega (arith, c.decreases, given, count),
      (
        omega (arith, given, more, count),
        (omega (arith, few, count), (subst (λ groups. AreGroups 0 0x10000 (parts c.args.depth groups)) (sym back) first.others, omega (arith, deep, sum, rest))),
      ),
    )

pub returns-in-Some-clause-adds : goal.returns-in-Some-clause-adds
returns-in-Some-clause-adds t c =
    let count = c.split_at.ensures.back_len in
    let rest = parts_length c.args.depth c.split_at.result.1.now in
    let given = c.requires.some in
    let few = c.requires.few in
    let more = c.if-groups-eq1.false in
    value_adds (slice_index_or c.args.groups.now 0 no_group).unit c.cast_unsigned.result c.in-Some.value (rests (c.args.depth + 1) (slice_index_or c.args.groups.now 0 no_group).pairs.now) c.args.tasks.now c.put.new.self c.put-in-Some.new.self c.plan_entries.new.tasks
    (parts c.args.depth c.split_at.result.1.now) (parts c.args.depth c.args.groups.now)
    c.in_ok-put.ensures c.in_ok-put-3.ensures c.in_ok-plan_entries.ensures.adds (same_number c.in-Some.value c.cast_unsigned.result c.cast_unsigned.ensures c.in-Some.ensures.value) c.in-Some.ensures.pairs
    (omega (arith, given, more, count, rest)) (omega (arith, few, count, rest))
    (parts_first c.args.depth c.args.groups.now no_group c.requires.some ∙ ap (λ groups. ((slice_index_or c.args.groups.now 0 no_group).unit, rests (c.args.depth + 1) (slice_index_or c.args.groups.now 0 no_group).pairs.now) ∷ parts c.args.depth groups) (sym c.split_at.ensures.back))
    c.requires.groups

pub plan_entries-requires-2 : goal.plan_entries-requires-2
plan_entries-requires-2 t c =
    let back = c.split_at.ensures.back in
    let count = c.split_at.ensures.back_len in
    let given = c.requires.some in
    let few = c.requires.few in
    let more = c.if-groups-eq1.false in
    let first = first_group (slice_index_or c.args.groups.now 0 no_group).unit (rests (c.args.depth + 1) (slice_index_or c.args.groups.now 0 no_group).pairs.now) (parts c.args.depth (drop 1 c.args.groups.now)) (parts c.args.depth c.args.groups.now)
    (parts_first c.args.depth c.args.groups.now no_group c.requires.some) c.requires.groups in
    let sum = first.sum in
    let rest = ap (λ groups. room (spread (parts c.args.depth groups))) back in
    let deep = c.requires.deep in (
      omega (arith, c.decreases, given, count),
      (
        omega (arith, given, more, count),
        (omega (arith, few, count), (subst (λ groups. AreGroups 0 0x10000 (parts c.args.depth groups)) (sym back) first.others, omega (arith, deep, sum, rest))),
      ),
    )

pub returns-clause-adds : goal.returns-clause-adds
returns-clause-adds t c =
    let count = c.split_at.ensures.back_len in
    let rest = parts_length c.args.depth c.split_at.result.1.now in
    let given = c.requires.some in
    let few = c.requires.few in
    let more = c.if-groups-eq1.false in
    jump_adds (slice_index_or c.args.groups.now 0 no_group).unit c.args.depth (slice_index_or c.args.groups.now 0 no_group).pairs c.args.tasks.now c.put.new.self c.put-2.new.self c.plan_entries-2.new.tasks c.put-3.new.self c.put-4.new.self
    (parts c.args.depth c.split_at.result.1.now) (parts c.args.depth c.args.groups.now)
    c.in_ok-put.ensures c.in_ok-put-4.ensures c.in_ok-plan_entries-2.ensures.adds c.in_ok-put-5.ensures c.in_ok-put-6.ensures
    (omega (arith, given, more, count, rest)) (omega (arith, few, count, rest))
    (parts_first c.args.depth c.args.groups.now no_group c.requires.some ∙ ap (λ groups. ((slice_index_or c.args.groups.now 0 no_group).unit, rests (c.args.depth + 1) (slice_index_or c.args.groups.now 0 no_group).pairs.now) ∷ parts c.args.depth groups) (sym c.split_at.ensures.back))
    c.requires.groups c.requires.deep

pub returns-clause-weight : goal.returns-clause-weight
returns-clause-weight t c =
    let back = c.split_at.ensures.back in
    let first = first_group (slice_index_or c.args.groups.now 0 no_group).unit (rests (c.args.depth + 1) (slice_index_or c.args.groups.now 0 no_group).pairs.now) (parts c.args.depth (drop 1 c.args.groups.now)) (parts c.args.depth c.args.groups.now)
    (parts_first c.args.depth c.args.groups.now no_group c.requires.some) c.requires.groups in
    let sum = first.sum in
    let some = first.some in
    let rest = ap (λ groups. room (spread (parts c.args.depth groups))) back in
    let entries = c.in_ok-plan_entries-2.ensures.weight in
    let unit = ap weight c.in_ok-put.ensures in
    let jump = ap weight c.in_ok-put-4.ensures in
    let mark = ap weight c.in_ok-put-5.ensures in
    let node = ap weight c.in_ok-put-6.ensures in
    omega (arith, sum, some, rest, entries, unit, jump, mark, node)
