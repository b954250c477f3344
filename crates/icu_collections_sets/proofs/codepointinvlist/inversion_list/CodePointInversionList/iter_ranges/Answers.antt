use Rattle.std.proofs.Common.{ap, ◌∙◌}
use Rattle.icu_collections_sets.specs.CodePoints.{holds, ranges_of, in_ranges}
use Rattle.icu_collections_sets.proofs.sets.InversionListLemmas.{in_ranges_of}
use Rattle.icu_collections_sets.proofs.codepointinvlist.inversion_list.CodePointInversionList.iter_ranges.Goals as goal

pub returns-clause-members : goal.returns-clause-members
returns-clause-members c = λ code_point.
    ap (λ ranges. in_ranges ranges code_point) c.new.ensures
    ∙ ap (λ xs. in_ranges (ranges_of xs) code_point) c.iter.ensures.items
    ∙ in_ranges_of 0 c.self.inside.edges code_point c.self.invariant.rises c.self.invariant.even
    ∙ ap (λ xs. holds xs code_point) c.self.view_is
