use Rattle.std.proofs.Common.{sym, ◌∙◌}
use Rattle.icu_collator_types.specs.ElementWords.{has_tag}
use Rattle.icu_collator_core.proofs.checks.CheckedTestLemmas.{where_asked}
use Rattle.icu_collator_core.proofs.check.weights.are_sound_where.Goals as goal

pub returns : goal.returns
returns c =
    where_asked (has_tag c.args.tag c.args.word) c.in_ok-all.all (sym c.has_tag.ensures ∙ c.if-not-has_tag.false) c.in_ok-all.ensures
