use Rattle.std.proofs.Common.{Some, ◌&&◌, nat_lt, not, ap, sym, ◌∙◌, subst, arith}
use Rattle.icu_collections_sets.specs.CodePoints.{IsInversionList, holds, in_ranges}
use Rattle.icu_collections_sets.specs.Gaps.{gaps, AreGapsOf}
use Rattle.icu_collections_sets.proofs.sets.GapLemmas.{left_out_behind, left_out_all, Rises_above, gaps_are, AreGapsFrom_behind}
use Rattle.icu_collections_sets.proofs.codepointinvlist.gaps.ComplementedRanges.new.Goals as goal

pub returns-then-holds_first-clause-members : goal.returns-then-holds_first-clause-members
returns-then-holds_first-clause-members c = λ k.
    let e = c.first_start-start.ensures in
    let rest = c.first_start-start.new.edges in
    ap (λ s. in_ranges (gaps s rest) k) e.2 ∙ left_out_behind e.0 rest (subst IsInversionList e.1 c.requires.list) k
    ∙ ap (λ xs. nat_lt k 1114112 && not (holds xs k)) (sym e.1)

pub invariant_of-result-2 : goal.invariant_of-result-2
invariant_of-result-2 c =
    ((omega arith, Rises_above c.args.edges c.requires.list.rises (sym c.requires.first ∙ c.if-holds_first.false), c.requires.list.even), c.requires.last)

pub returns-clause-members : goal.returns-clause-members
returns-clause-members c = λ k. left_out_all c.args.edges c.requires.list (sym c.requires.first ∙ c.if-holds_first.false) k

pub returns-then-holds_first-clause-ranges : goal.returns-then-holds_first-clause-ranges
returns-then-holds_first-clause-ranges c =
    let e = c.first_start-start.ensures in
    let rest = c.first_start-start.new.edges in
    let members = returns-then-holds_first-clause-members c in
    subst (λ s. AreGapsOf c.args.edges (gaps s rest)) (sym e.2)
    (gaps_are c.args.edges _ rest (AreGapsFrom_behind e.0 rest (subst IsInversionList e.1 c.requires.list)) (λ k. ap (λ s. in_ranges (gaps s rest) k) (sym e.2) ∙ members k))

pub returns-clause-ranges : goal.returns-clause-ranges
returns-clause-ranges c = gaps_are c.args.edges (Some 0) c.args.edges ((invariant_of-result-2 c).0) (returns-clause-members c)
