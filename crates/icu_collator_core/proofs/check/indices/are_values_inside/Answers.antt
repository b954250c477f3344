use Rattle.std.proofs.Common.{◌↔◌, subst}
use Rattle.std.specs.Bool.{IsTrue}
use Rattle.icu_collator_core.specs.Pools.{trie_of}
use Rattle.icu_collator_core.specs.TableMeaning.{pools_of}
use Rattle.icu_collator_core.specs.WordForms.{EntriesPass, by_word}
use Rattle.icu_collator_core.specs.WordIndices.{has_items}
use Rattle.icu_collator_core.proofs.check.indices.are_values_inside.Goals as goal

pub returns : goal.returns
returns c =
    subst
    (λ index. IsTrue c.in_ok-all.all ↔ EntriesPass (by_word (has_items (pools_of c.args.source.now))) (trie_of c.args.source.now.contexts index))
    c.index_of.ensures.index c.in_ok-all.ensures
