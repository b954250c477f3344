use Rattle.std.proofs.Common.{◌∙◌, ◌++◌, List, ℕ, ap, arith, sym, take, reverse}
use Rattle.std.proofs.lemmas.List.{length-take}
use Rattle.std.specs.Option.{option_and_then}
use Rattle.icu_collator_core.specs.Elements.{longest_prefix}
use Rattle.icu_collator_core.specs.Pools.{elements_of_word}
use Rattle.icu_collator_core.specs.ReadTexts.{characters_before, characters_behind}
use Rattle.icu_collator_core.specs.ReadWords.{table_word}
use Rattle.icu_collator_core.specs.TableMeaning.{pools_of}
use Rattle.icu_collator_core.proofs.lookups.MatchLemmas.{scalars_front}
use Rattle.icu_collator_core.proofs.lookups.PrefixLemmas.{prefix_is, scalars_back, scalars_join}
use Rattle.icu_collator_core.proofs.table_words.counting_words.CountingWord.is_told.Goals as goal

pub returns : goal.returns
returns c = λ told weights d said ok further f.
    let entry = table_word c.args.self in
    let list = c.args.list.now in
    let index = c.args.index in
    let front = reverse (take index list) in
    let turned = scalars_back (take index list) ok in
    let few : (xs : List ℕ) → _ = λ xs. length-take longest_prefix xs in
    prefix_is entry (characters_behind further list index) weights d said
    (scalars_front longest_prefix (front ++ further) (scalars_join front further turned f)) (let n = few (front ++ further) in omega (arith, n))
    ∙ ap (option_and_then (λ text. elements_of_word (pools_of c.args.self.source.now) text.word)) (c.is_prefix_told.ensures told further)
    ∙ sym (prefix_is entry (characters_before list index) weights d said (scalars_front longest_prefix front turned) (let n = few front in omega (arith, n)))
