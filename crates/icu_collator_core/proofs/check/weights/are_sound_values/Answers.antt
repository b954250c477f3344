use Rattle.std.proofs.Common.{◌↔◌, subst}
use Rattle.std.specs.Bool.{IsTrue}
use Rattle.icu_collator_core.specs.Pools.{trie_of}
use Rattle.icu_collator_core.specs.TableMeaning.{pools_of}
use Rattle.icu_collator_core.specs.WeightFaults.{is_sound_in_context}
use Rattle.icu_collator_core.specs.WordForms.{EntriesPass, by_word}
use Rattle.icu_collator_core.proofs.check.weights.are_sound_values.Goals as goal

pub returns : goal.returns
returns c =
    subst
    (λ index. IsTrue c.in_ok-all.all ↔ EntriesPass (by_word (is_sound_in_context c.args.special.now (pools_of c.args.source.now) c.args.c)) (trie_of c.args.source.now.contexts index))
    c.index_of.ensures.index c.in_ok-all.ensures
