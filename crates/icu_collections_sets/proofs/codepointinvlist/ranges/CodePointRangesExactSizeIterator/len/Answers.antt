use Rattle.std.proofs.Common.{◌/◌, length, sym, ap, ◌∙◌}
use Rattle.icu_collections_sets.proofs.sets.InversionListLemmas.{length-ranges_of}
use Rattle.icu_collections_sets.proofs.codepointinvlist.ranges.CodePointRangesExactSizeIterator.len.Goals as goal

pub returns-clause-value : goal.returns-clause-value
returns-clause-value c = ap (λ n. n / 2) c.len.ensures.value ∙ sym (length-ranges_of c.self.inside.edges) ∙ ap length c.self.view_is
