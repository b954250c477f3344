use Rattle.std.proofs.Common.{inr, refl, sym, ap, subst, Option}
use Rattle.std.specs.Prelude.{MatchOption}
use Rattle.icu_normalizer_core.specs.declared.canonical.tables.CanonicalFault.{CanonicalFault}
use Rattle.icu_normalizer_core.specs.CanonicalFaults.{IsAccepted, IsFirstFault}
use Rattle.icu_normalizer_core.specs.CanonicalMaps.{KeepCanonicalRules}
use Rattle.icu_normalizer_core.specs.CanonicalMeaning.{lists_of}
use Rattle.icu_normalizer_core.specs.CompatibilityMaps.{BuilderMaps}
use Rattle.icu_normalizer_core.proofs.building.BuiltTableLemmas.{fault_breaks}
use Rattle.icu_normalizer_core.proofs.builder.CanonicalDataBuilder.build_told.Goals as goal

pub returns-clause-refused : goal.returns-clause-refused
returns-clause-refused c =
    inr (
      refl,
      λ rules.
          fault_breaks (record { classes = c.as_slice.result.now; mappings = c.as_slice-2.result.now }) (lists_of c.in-Ok.tables) c.in-Some.field-0 c.in-Ok.ensures.built
          (subst (λ (o : Option CanonicalFault). MatchOption o (IsAccepted (lists_of c.in-Ok.tables)) (IsFirstFault (lists_of c.in-Ok.tables))) c.in-Some.is c.in_ok-first_fault.ensures)
          (rw (c.as_slice.ensures.value, c.as_slice-2.ensures.value) (subst KeepCanonicalRules (sym (ap (λ (given : BuilderMaps). given.canonical) c.self.view_is)) rules.rules)),
    )
