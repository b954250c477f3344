use Rattle.std.proofs.Common.{◌↔◌, subst}
use Rattle.std.specs.Bool.{IsTrue}
use Rattle.icu_collator_core.specs.Pools.{trie_of}
use Rattle.icu_collator_core.specs.TableMeaning.{pools_of}
use Rattle.icu_collator_core.specs.WordForms.{EntriesPass, by_word, is_own_word}
use Rattle.icu_collator_core.proofs.check.forms.gives_own_words.Goals as goal

pub returns : goal.returns
returns c =
    subst
    (λ index. IsTrue c.in_ok-all.all ↔ EntriesPass (by_word (is_own_word (pools_of c.args.source.now))) (trie_of c.args.source.now.contexts index))
    c.index_of.ensures.index c.in_ok-all.ensures
