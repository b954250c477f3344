use Rattle.std.proofs.Common.{ℕ, ◌+◌, ◌*◌, ◌/◌, ◌≤◌, List, map, length, ◌∙◌, arith}
use Rattle.std.specs.Prelude.{slice_index}
use Rattle.std.proofs.lemmas.List.{length-map}
use Rattle.icu_codepointtrie.proofs.built.BuiltLayoutLemmas.{slots_inside, IsLayout-made, AreBounded-made}
use Rattle.icu_codepointtrie.proofs.built.BuiltTrieLemmas.{type_facts}
use Rattle.icu_codepointtrie.proofs.builder.layout.Layout.new.Goals as goal

pub third_blocks-requires-clause-small : goal.third_blocks-requires-clause-small
third_blocks-requires-clause-small g c =
    let number = g.T.TrieValue.number in
    let cells : List ℕ = map number c.slots_of-2.new.cells.items in
    let one = c.in_ok-fast.ensures.grown in
    let two = c.in_ok-small.ensures.grown in
    let first = length-map c.put_first_blocks.new.cells.items number in
    let x = type_facts c.args.trie_type in
    let bound : length cells ≤ 257536 = omega (arith, one.few, two.few, first, c.in_ok-put_first_blocks.ensures.count, c.small_room-room.ensures, c.fast_limit-limit.ensures, x.1, x.2) in
    rw c.as_slice.ensures.value (λ i h.
    let inside : slice_index c.in_ok-small.small.items i + 16 ≤ length cells =
    slots_inside 16 (map number c.args.values.now) (c.fast_limit-limit.result / 16) (32 * c.end_of_blocks-wide_end.result) cells c.in_ok-small.small.items c.in_ok-small.ensures.count c.in_ok-small.ensures.stand i h in
    omega arith)

pub returns-clause-layout : goal.returns-clause-layout
returns-clause-layout g c =
    let number = g.T.TrieValue.number in
    let numbers : List ℕ = map number c.args.values.now in
    IsLayout-made numbers (map number c.put_first_blocks.new.cells.items) (map number c.slots_of.new.cells.items) (map number c.slots_of-2.new.cells.items) _ _ _ c.fast_limit-limit.result
    c.in_ok-small.small.items c.in_ok-blocks.blocks.entries.items c.in_ok-wide.wide.kept.items c.in_ok-wide.wide.slots.items
    c.fast_limit-limit.ensures (length-map c.args.values.now number ∙ c.requires.all) c.end_of_blocks-wide_end.ensures.to
    c.in_ok-put_first_blocks.ensures.stand c.in_ok-fast.ensures.grown c.in_ok-fast.ensures.stand c.in_ok-small.ensures.grown
    (rw (c.as_slice-3.ensures.value, c.as_slice-4.ensures.value) at c.in_ok-seconds.ensures)
    c.in_ok-wide.ensures.kept c.in_ok-wide.ensures.slots c.in_ok-small.ensures.stand
    (rw (c.as_slice.ensures.value, c.as_slice-2.ensures.value, c.third_start-start.ensures) at c.in_ok-blocks.ensures.gives)
    c.end_of_blocks-wide_end.ensures.run

pub returns-clause-bounds : goal.returns-clause-bounds
returns-clause-bounds g c =
    let number = g.T.TrieValue.number in
    let one = c.in_ok-fast.ensures.grown in
    let first = length-map c.put_first_blocks.new.cells.items number in
    let x = type_facts c.args.trie_type in
    AreBounded-made (map number c.args.values.now) (map number c.slots_of.new.cells.items) _ c.fast_limit-limit.result
    c.in_ok-small.small.items c.in_ok-blocks.blocks.entries.items c.in_ok-wide.wide.kept.items c.in_ok-wide.wide.slots.items
    c.fast_limit-limit.ensures c.end_of_blocks-wide_end.ensures.from c.end_of_blocks-wide_end.ensures.to
    (omega (arith, one.few, first, c.in_ok-put_first_blocks.ensures.count, c.fast_limit-limit.ensures, x.1, x.2)) c.in_ok-fast.ensures.count c.in_ok-fast.ensures.stand
    (rw (c.as_slice-3.ensures.value, c.as_slice-4.ensures.value) at c.in_ok-seconds.ensures) c.in_ok-wide.ensures.slots
    (rw (c.as_slice.ensures.value, c.as_slice-2.ensures.value, c.third_start-start.ensures) at c.in_ok-blocks.ensures.gives)

pub returns-clause-few : goal.returns-clause-few
returns-clause-few g c =
    let number = g.T.TrieValue.number in
    let one = c.in_ok-fast.ensures.grown in
    let two = c.in_ok-small.ensures.grown in
    let a = length-map c.put_first_blocks.new.cells.items number in
    let b = length-map c.slots_of.new.cells.items number in
    let d = length-map c.slots_of-2.new.cells.items number in
    rw (← c.small_room-room.ensures, ← c.fast_limit-limit.ensures) (_, _, c.in_ok-fast.ensures.few, c.in_ok-small.ensures.few, omega (arith, one.longer, two.longer, a, b, d, c.in_ok-put_first_blocks.ensures.count))
