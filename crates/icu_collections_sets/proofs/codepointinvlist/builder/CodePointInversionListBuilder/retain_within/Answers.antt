use Rattle.icu_collections_sets.proofs.edits.ToggleLemmas.{retained}
use Rattle.icu_collections_sets.proofs.codepointinvlist.builder.CodePointInversionListBuilder.retain_within.Goals as goal

pub returns-clause-ok : goal.returns-clause-ok
returns-clause-ok c =
    retained c.args.self.now c.remove_below.new.self c.remove_from.new.self c.args.from c.args.till c.if-from-till.false c.remove_from.ensures.list
    c.in_ok-remove_below.ensures.ok c.remove_from.ensures.removed
