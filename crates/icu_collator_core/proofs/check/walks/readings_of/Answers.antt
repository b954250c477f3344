use Rattle.std.proofs.Common.{subst}
use Rattle.std.specs.Option.{MatchOption}
use Rattle.icu_char16trie.specs.KeyFolds.{AreFolded}
use Rattle.icu_char16trie.specs.UnitGrammar.{IsUnitTrie}
use Rattle.icu_collator_core.specs.declared.check.walks.Reading.TheVariants.{Whole}
use Rattle.icu_collator_core.specs.KeyTexts.{read_unit}
use Rattle.icu_collator_core.proofs.check.walks.readings_of.Goals as goal

pub returns-clause-readings : goal.returns-clause-readings
returns-clause-readings g c =
    subst (λ units. MatchOption c.in_ok-found.found (IsUnitTrie units → ⊥)
    (λ readings. AreFolded (read_unit (g.T.TextTest.onward c.args.test.now)) (Whole c.args.start) units readings.items))
    c.units_of-units.ensures.units c.in_ok-found.ensures
