use Rattle.std.proofs.Common.{sym, subst}
use Rattle.icu_collator.specs.Collators.{source_collation}
use Rattle.icu_collator.specs.NextCharacters.{IsOrderOfNext}
use Rattle.icu_collator.specs.declared.common_front.deciding.NextCharacter.{NextCharacter}
use Rattle.icu_collator.specs.declared.common_front.deciding.NextCharacter.TheVariants.{Plain}
use Rattle.std.specs.declared.cmp.Ordering.TheVariants.{Greater}
use Rattle.icu_collator.proofs.boundaries.NextCharacterLemmas.{decided_next, end_greater}
use Rattle.icu_collator.proofs.common_front.deciding.order_behind_plain.Goals as goal

pub returns-in_ok-_primary-in-End : goal.returns-in_ok-_primary-in-End
returns-in_ok-_primary-in-End c = λ options end.
    let collation = source_collation c.args.checked.now in
    subst (λ (n : NextCharacter). IsOrderOfNext collation options (Plain c.args.left) n Greater) (sym c.in-End.is)
    (end_greater collation options c.args.left (c.in_ok-_primary-in-End.ensures.counts options end))

pub returns-in-Plain : goal.returns-in-Plain
returns-in-Plain c =
    decided_next (source_collation c.args.checked.now) c.args.variable_end c.args.left c.in-Plain.element c.args.right c.decide.result c.in-Plain.is c.decide.ensures
