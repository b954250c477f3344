use Rattle.std.proofs.Common.{◌∙◌, ap, subst}
use Rattle.icu_char16trie.specs.KeyFolds.{AreFolded}
use Rattle.icu_char16trie.specs.UnitGrammar.{IsUnitTrie}
use Rattle.icu_collator_core.specs.declared.check.walks.Reading.TheVariants.{Whole}
use Rattle.icu_collator_core.specs.declared.unsafe_characters.context_texts.Met.{Met}
use Rattle.icu_collator_core.specs.KeyTexts.{read_small}
use Rattle.icu_collator_core.specs.Pools.{trie_of}
use Rattle.icu_collator_core.specs.TableMeaning.{pools_of}
use Rattle.icu_collator_core.specs.TextFolds.{met_with}
use Rattle.icu_collator_core.specs.UnsafeWords.{ContextGives}
use Rattle.icu_collator_core.proofs.apart.GrowthLemmas.{grown_by_none, grown_same}
use Rattle.icu_collator_core.proofs.checks.CheckedValueLemmas.{found_nothing, found_one}
use Rattle.icu_collator_core.proofs.unsafety.MetLemmas.{broken_gives_none, readings_give}
use Rattle.icu_collator_core.proofs.unsafe_characters.context_texts.gather_last_of.Goals as goal

pub returns-in-Some : goal.returns-in-Some
returns-in-Some c =
    let pools = pools_of c.args.source.now in
    let same = c.units_of-units.ensures.units ∙ ap (trie_of pools.contexts) c.index_of.ensures.index in
    let start : Met = record { count = 0; character = c.args.first } in
    let folded = subst (λ units. AreFolded (read_small (met_with c.args.many)) (Whole start) units c.in-Some.readings.items) same
    (found_one (IsUnitTrie c.units_of-units.result → ⊥)
    (λ readings. AreFolded (read_small (met_with c.args.many)) (Whole start) c.units_of-units.result readings.items) c.in_ok-found.found
    c.in-Some.readings c.in-Some.is c.in_ok-found.ensures) in
    grown_same _ (ContextGives pools c.args.many c.args.first c.args.word) c.args.characters.now.items c.gather_readings.new.characters.items
    (readings_give pools c.args.many c.args.first c.args.word c.in-Some.readings.items folded c.units_of-units.ensures.bound)
    c.in_ok-gather_readings-in-Some.ensures

pub returns : goal.returns
returns c =
    let pools = pools_of c.args.source.now in
    let same = c.units_of-units.ensures.units ∙ ap (trie_of pools.contexts) c.index_of.ensures.index in
    let start : Met = record { count = 0; character = c.args.first } in
    grown_by_none (ContextGives pools c.args.many c.args.first c.args.word) c.args.characters.now.items
    (broken_gives_none pools c.args.many c.args.first c.args.word
    (subst (λ units. IsUnitTrie units → ⊥) same
    (found_nothing (IsUnitTrie c.units_of-units.result → ⊥)
    (λ readings. AreFolded (read_small (met_with c.args.many)) (Whole start) c.units_of-units.result readings.items) c.in_ok-found.found
    c.in-None.is c.in_ok-found.ensures)))
