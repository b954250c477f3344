use Rattle.std.proofs.Common.{◌≡◌, ◌≤◌, ◌⊎◌, List, subst}
use Rattle.std.specs.Prelude.{IfErr, IfOk, OnOk, nat_eq}
use Rattle.std.specs.Set.{distinct_count}
use Rattle.icu_normalizer_core.specs.declared.builder.given.CanonicalDataBuildError.TheVariants.{Memory, Rules}
use Rattle.icu_normalizer_core.specs.declared.builder.given.GivenClass.{GivenClass}
use Rattle.icu_normalizer_core.specs.BuiltMaps.{AreBuiltOf}
use Rattle.icu_normalizer_core.specs.CanonicalMaps.{KeepRulesWithin, named}
use Rattle.icu_normalizer_core.specs.CanonicalMeaning.{lists_of}
use Rattle.icu_normalizer_core.proofs.builder.tables.tables.Goals as goal

pub returns-clause-built : goal.returns-clause-built
returns-clause-built c =
    subst (λ (cs : List GivenClass). IfOk c.tables_over.result (λ tables. AreBuiltOf (record { classes = cs; mappings = c.args.mappings.now }) (lists_of tables))) c.in_ok-classes.ensures
    c.tables_over.ensures.built

pub returns-clause-few : goal.returns-clause-few
returns-clause-few c =
    subst (λ (cs : List GivenClass). OnOk c.tables_over.result (distinct_count nat_eq (named (record { classes = cs; mappings = c.args.mappings.now })) ≤ c.args.limit)) c.in_ok-classes.ensures
    c.tables_over.ensures.few

pub returns-clause-refused : goal.returns-clause-refused
returns-clause-refused c =
    subst
    (λ (cs : List GivenClass).
    IfErr c.tables_over.result (λ e. (e ≡ Memory) ⊎ ((e ≡ Rules) × (KeepRulesWithin c.args.limit (record { classes = cs; mappings = c.args.mappings.now }) → ⊥))))
    c.in_ok-classes.ensures c.tables_over.ensures.refused
