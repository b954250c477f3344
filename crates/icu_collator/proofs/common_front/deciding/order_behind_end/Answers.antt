use Rattle.std.proofs.Common.{sym, subst}
use Rattle.icu_collator.specs.Collators.{source_collation}
use Rattle.icu_collator.specs.NextCharacters.{IsOrderOfNext}
use Rattle.icu_collator.specs.declared.common_front.deciding.NextCharacter.{NextCharacter}
use Rattle.icu_collator.specs.declared.common_front.deciding.NextCharacter.TheVariants.{End}
use Rattle.std.specs.declared.cmp.Ordering.TheVariants.{Less, Equal}
use Rattle.icu_collator.proofs.boundaries.NextCharacterLemmas.{end_less, ends_equal}
use Rattle.icu_collator.proofs.common_front.deciding.order_behind_end.Goals as goal

pub returns-in-End : goal.returns-in-End
returns-in-End c = λ options end.
    let collation = source_collation c.args.checked.now in
    subst (λ (n : NextCharacter). IsOrderOfNext collation options End n Equal) (sym c.in-End.is) (ends_equal collation options)

pub returns-in_ok-_primary-in-Plain : goal.returns-in_ok-_primary-in-Plain
returns-in_ok-_primary-in-Plain c = λ options end.
    let collation = source_collation c.args.checked.now in
    subst (λ (n : NextCharacter). IsOrderOfNext collation options End n Less) (sym c.in-Plain.is)
    (end_less collation options c.in-Plain.element (c.in_ok-_primary-in-Plain.ensures.counts options end))
