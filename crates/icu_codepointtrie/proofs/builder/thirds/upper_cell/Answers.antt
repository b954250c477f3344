use Rattle.std.proofs.Common.{◌≡◌, ◌+◌, ◌/◌, ◌^◌, arith, refl}
use Rattle.std.specs.Prelude.{slice_index}
use Rattle.icu_codepointtrie.specs.IndexBlocks.{upper_cell}
use Rattle.icu_codepointtrie.proofs.built.IndexBlockLemmas.{joined_more, four_more, four_bound}
use Rattle.icu_codepointtrie.proofs.builder.thirds.upper_cell.Goals as goal

pub loop-number-init : goal.loop-number-init
loop-number-init c = (refl, omega arith)

pub overflow_mul-cell : goal.overflow_mul-cell
overflow_mul-cell c = omega (arith, four_bound c.loop-number.number (omega arith))

pub overflow_add-cell-in-loop-number : goal.overflow_add-cell-in-loop-number
overflow_add-cell-in-loop-number c = omega (arith, four_bound c.loop-number.number (omega arith), c.requires.small (c.args.first + c.loop-number.number) (omega arith))

pub loop-number-preserved : goal.loop-number-preserved
loop-number-preserved c =
    let small = c.requires.small (c.args.first + c.loop-number.number) (omega arith) in
    let more = joined_more (λ i. slice_index c.args.slots.now (c.args.first + i) / 2 ^ 16) c.loop-number.number in
    (rw (more, ← c.loop-number.invariant.0) refl, four_more c.loop-number.number c.loop-number.cell (slice_index c.args.slots.now (c.args.first + c.loop-number.number) / 65536) c.loop-number.invariant.1 (omega arith))

pub returns-clause-cell : goal.returns-clause-cell
unfolding upper_cell
returns-clause-cell c =
    let end : c.loop-number.number ≡ 8 = omega arith in
    rw end at c.loop-number.invariant.0

pub returns-clause-bound : goal.returns-clause-bound
returns-clause-bound c = omega (arith, four_bound c.loop-number.number (omega arith))
