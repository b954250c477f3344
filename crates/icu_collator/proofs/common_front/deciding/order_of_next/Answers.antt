use Rattle.std.proofs.Common.{sym, subst}
use Rattle.icu_collator.specs.Collators.{source_collation}
use Rattle.icu_collator.specs.declared.common_front.deciding.NextCharacter.{NextCharacter}
use Rattle.icu_collator.proofs.boundaries.NextCharacterLemmas.{OrdersNext}
use Rattle.icu_collator.proofs.common_front.deciding.order_of_next.Goals as goal

pub returns-in-End : goal.returns-in-End
returns-in-End c =
    subst (λ (n : NextCharacter). OrdersNext (source_collation c.args.checked.now) c.args.variable_end n c.args.right c.order_behind_end.result) (sym c.in-End.is)
    c.order_behind_end.ensures

pub returns-in-Plain : goal.returns-in-Plain
returns-in-Plain c =
    subst (λ (n : NextCharacter). OrdersNext (source_collation c.args.checked.now) c.args.variable_end n c.args.right c.order_behind_plain.result) (sym c.in-Plain.is)
    c.order_behind_plain.ensures
