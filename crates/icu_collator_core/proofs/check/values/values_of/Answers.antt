use Rattle.std.proofs.Common.{subst}
use Rattle.std.specs.Option.{MatchOption}
use Rattle.icu_char16trie.specs.KeyFolds.{AreFolded}
use Rattle.icu_char16trie.specs.UnitGrammar.{IsUnitTrie}
use Rattle.icu_collator_core.specs.WordForms.{keeps_nothing}
use Rattle.icu_collator_core.proofs.check.values.values_of.Goals as goal

pub returns-clause-values : goal.returns-clause-values
returns-clause-values c =
    subst (λ units. MatchOption c.in_ok-found.found (IsUnitTrie units → ⊥) (λ values. AreFolded keeps_nothing tt units values.items))
    c.units_of-units.ensures.units c.in_ok-found.ensures
