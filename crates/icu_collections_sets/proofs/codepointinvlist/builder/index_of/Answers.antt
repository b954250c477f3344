use Rattle.std.proofs.Common.{ℕ, ◌≤◌, ◌<◌, ◌+◌, ◌-◌, ◌/◌, get_or, length, arith}
use Rattle.std.proofs.lemmas.List.{get_or_default}
use Rattle.icu_collections_sets.proofs.sets.InversionListLemmas.{low_side_below, high_side_from}
use Rattle.icu_collections_sets.proofs.codepointinvlist.builder.index_of.Goals as goal

pub loop-low-preserved-then-edges-middle : goal.loop-low-preserved-then-edges-middle
loop-low-preserved-then-edges-middle c =
    let xs = c.args.edges.now in
    let middle : ℕ = c.loop-low.low + (c.loop-low.high - c.loop-low.low) / 2 in
    let inside : middle < length xs = omega arith in
    let here : (d : ℕ) → get_or xs middle d < c.args.bound = λ d. omega (arith, get_or_default xs middle d 0 inside) in
    (omega arith, c.loop-low.invariant.1, low_side_below xs middle c.args.bound c.requires inside here, c.loop-low.invariant.3)

pub loop-low-preserved : goal.loop-low-preserved
loop-low-preserved c =
    let xs = c.args.edges.now in
    let middle : ℕ = c.loop-low.low + (c.loop-low.high - c.loop-low.low) / 2 in
    let inside : middle < length xs = omega arith in
    let here : (d : ℕ) → c.args.bound ≤ get_or xs middle d = λ d. omega (arith, get_or_default xs middle d 0 inside) in
    (omega arith, omega arith, c.loop-low.invariant.2, high_side_from xs middle c.args.bound c.requires inside here)
