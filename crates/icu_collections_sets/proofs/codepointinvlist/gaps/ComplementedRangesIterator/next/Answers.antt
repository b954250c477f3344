use Rattle.std.proofs.Common.{◌-◌, ◌∷◌, Some, ap, sym, ◌∙◌, rules}
use Rattle.std.specs.Range.{range_inclusive_start}
use Rattle.icu_collections_sets.specs.CodePoints.{ends_of}
use Rattle.icu_collections_sets.specs.Gaps.{gaps, start_from}
use Rattle.icu_collections_sets.proofs.codepointinvlist.gaps.ComplementedRangesIterator.next.Goals as goal

pub returns-clause-steps : goal.returns-clause-steps
returns-clause-steps c =
    let start = c.in_ok-start.start in
    let from = c.in-Some.from in
    let next = c.next_start-self-inside.ensures in
    let rest = c.next_start-self-inside.new.edges in
    let range = c.new-2.result in
    sym c.self.view_is ∙ ap (λ s. gaps s c.self.inside.edges) c.in_ok-start.was
    ∙ ap (gaps (Some start)) (c.in-Some.ensures.steps ∙ ap (λ ys. from ∷ ys) next.1)
    ∙ ap (λ first. (first, from - 1) ∷ gaps (start_from next.0) rest) (sym c.new-2.ensures.start)
    ∙ ap (λ last. (range_inclusive_start range, last) ∷ gaps (start_from next.0) rest) (sym c.new-2.ensures.end)
    ∙ ap (λ s. ends_of range ∷ gaps s rest) (sym next.2)

pub returns-clause-goes : goal.returns-clause-goes
returns-clause-goes c = let steps = returns-clause-steps c in search rules
