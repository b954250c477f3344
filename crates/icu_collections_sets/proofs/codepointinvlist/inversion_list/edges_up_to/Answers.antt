use Rattle.std.proofs.Common.{ℕ, ◌≤◌, ◌<◌, ◌+◌, ◌-◌, ◌/◌, get_or, length, arith}
use Rattle.icu_collections_sets.proofs.sets.InversionListLemmas.{low_side, high_side}
use Rattle.icu_collections_sets.proofs.codepointinvlist.inversion_list.edges_up_to.Goals as goal

pub loop-low-preserved-then-at-code_point : goal.loop-low-preserved-then-at-code_point
loop-low-preserved-then-at-code_point c =
    let middle : ℕ = c.loop-low.low + (c.loop-low.high - c.loop-low.low) / 2 in
    let inside : middle < length c.args.edges.now = omega arith in
    let here : (d : ℕ) → get_or c.args.edges.now middle d ≤ c.args.code_point = λ d. omega (arith, c.at.ensures.item d) in
    (omega arith, c.loop-low.invariant.1, low_side c.args.edges.now middle c.args.code_point c.requires inside here, c.loop-low.invariant.3)

pub loop-low-preserved : goal.loop-low-preserved
loop-low-preserved c =
    let middle : ℕ = c.loop-low.low + (c.loop-low.high - c.loop-low.low) / 2 in
    let inside : middle < length c.args.edges.now = omega arith in
    let here : (d : ℕ) → c.args.code_point < get_or c.args.edges.now middle d = λ d. omega (arith, c.at.ensures.item d) in
    (omega arith, omega arith, c.loop-low.invariant.2, high_side c.args.edges.now middle c.args.code_point c.requires inside here)
