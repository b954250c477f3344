use Rattle.std.proofs.Common.{◌≡◌, false, rules}
use Rattle.icu_collator_core.proofs.readings.StretchLemmas.{flat_closed}
use Rattle.icu_collator_core.proofs.checked.CheckedTables.close.Goals as goal

pub returns-then-not-stretch : goal.returns-then-not-stretch
returns-then-not-stretch g c = λ _ text read.
    let old = c.args.stretch.now in
    let smooth : old.is_rough ≡ false = search rules in
    flat_closed c.args.self.now c.args.numeric text old.chars.items old.count old.class old.is_rough c.args.elements.now.items read smooth
