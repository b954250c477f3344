use Rattle.std.proofs.Common.{ℕ, subst}
use Rattle.std.specs.Prelude.{IfSome}
use Rattle.icu_collator_core.specs.Acceptance.{CollationSource}
use Rattle.icu_collator_core.specs.ReadSources.{IsAloneAnywhere}
use Rattle.icu_collator_core.proofs.checked.CheckedTables.alone_element.Goals as goal

pub returns-in-None : goal.returns-in-None
returns-in-None c =
    subst (λ (source : CollationSource). IfSome c.find_alone.result (λ (bits : ℕ). IsAloneAnywhere source c.args.c bits)) c.self.view_is c.find_alone.ensures

pub returns-in-Some : goal.returns-in-Some
returns-in-Some c = c.in-Some.ensures.plain.alone
