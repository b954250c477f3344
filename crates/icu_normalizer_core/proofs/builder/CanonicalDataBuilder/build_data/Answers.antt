use Rattle.std.proofs.Common.{sym, subst}
use Rattle.icu_normalizer_core.specs.declared.canonical.tables.CanonicalTables.{CanonicalTables}
use Rattle.icu_normalizer_core.specs.BuiltMaps.{HasPlainWords}
use Rattle.icu_normalizer_core.proofs.builder.CanonicalDataBuilder.build_data.Goals as goal

pub returns-in_ok-of_accepted-in-Ok-clause-plain : goal.returns-in_ok-of_accepted-in-Ok-clause-plain
returns-in_ok-of_accepted-in-Ok-clause-plain c = subst (λ (t : CanonicalTables). HasPlainWords t.trie) (sym c.in_ok-of_accepted-in-Ok.ensures) c.in-Ok.ensures.plain
