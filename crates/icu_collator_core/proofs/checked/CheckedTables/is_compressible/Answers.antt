use Rattle.std.proofs.Common.{◌≡◌, ◌∙◌, arith, subst}
use Rattle.icu_collator_core.specs.Acceptance.{CollationSource}
use Rattle.icu_collator_core.specs.TableSettings.{is_compressible_in}
use Rattle.icu_collator_core.proofs.checked.CheckedTables.is_compressible.Goals as goal

pub returns : goal.returns
returns c =
    let lead = c.args.lead in
    subst (λ (source : CollationSource). c.is_compressible_by.result ≡ is_compressible_in source.tables.special_primaries.last_primaries lead) c.self.view_is
    (c.is_compressible_by.ensures ∙ c.self.invariant.3 lead (omega arith))
