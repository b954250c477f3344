use Rattle.std.proofs.Common.{ap, ◌∙◌}
use Rattle.std.proofs.lemmas.Bool.{ne_eqb}
use Rattle.icu_collator_types.specs.ElementWords.{self_contained}
use Rattle.icu_collator_core.proofs.lookups.PlainLemmas.{contained_spelled}
use Rattle.icu_collator_core.proofs.table_words.word_elements.stated_by.Goals as goal

pub returns-else-word-eq0-clause-elements : goal.returns-else-word-eq0-clause-elements
returns-else-word-eq0-clause-elements c =
    contained_spelled c.args.word c.to_ce_self_contained.result (ne_eqb c.args.word 0 c.if-word-eq0.false)
    (c.to_ce_self_contained.ensures ∙ ap (λ bits. self_contained bits) c.new.ensures)
