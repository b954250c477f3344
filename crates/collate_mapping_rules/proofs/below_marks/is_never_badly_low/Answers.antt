use Rattle.std.proofs.Common.{sym, ◌∙◌, arith}
use Rattle.std.proofs.lemmas.Bool.{false≢true}
use Rattle.collate_mapping_rules.proofs.mappings.LowChainLemmas.{never_high, never_low}
use Rattle.collate_mapping_rules.proofs.below_marks.is_never_badly_low.Goals as goal

pub returns-then-c-ge768 : goal.returns-then-c-ge768
returns-then-c-ge768 c = λ yes. never_high c.args.parts.now.list.items c.args.c (omega arith)

pub returns : goal.returns
returns c = λ yes.
    never_low c.args.parts.now.list.items c.args.c (sym c.class_of.ensures ∙ c.if-class_of-ne0.false)
    (λ mapped. false≢true (sym c.if-is_mapped_too_low.false ∙ c.is_mapped_too_low.ensures.1 mapped))
    (c.is_always_own.ensures yes)
