use Rattle.std.proofs.Common.{ℕ, Option, subst, sym, ◌∙◌}
use Rattle.icu_collator_core.specs.FlatSteps.{IsFollowed}
use Rattle.icu_collator_core.proofs.readings.FlatStepLemmas.{followed_told}
use Rattle.icu_collator_core.proofs.checked.CheckedTables.is_followed.Goals as goal

pub returns-in-Some : goal.returns-in-Some
returns-in-Some c = λ told.
    subst (λ (next : Option ℕ). IsFollowed c.args.self.now c.args.numeric c.args.class next) (sym c.in-Some.is)
    (followed_told c.args.self.now c.args.numeric c.args.class c.in-Some.c c.flat_primary.result c.flat_primary.ensures (sym c.is_some.ensures ∙ told))
