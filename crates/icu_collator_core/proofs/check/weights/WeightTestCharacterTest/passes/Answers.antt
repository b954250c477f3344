use Rattle.std.proofs.Common.{◌↔◌, subst}
use Rattle.std.specs.Bool.{IsTrue}
use Rattle.icu_codepointtrie.specs.Slots.{value_at}
use Rattle.icu_collator_core.specs.TableMeaning.{pools_of}
use Rattle.icu_collator_core.specs.WordWeights.{HasSoundWords}
use Rattle.icu_collator_core.proofs.checks.CheckedListLemmas.{word_same}
use Rattle.icu_collator_core.proofs.check.weights.WeightTestCharacterTest.passes.Goals as goal

pub returns : goal.returns
returns c =
    subst (λ word. IsTrue c.in_ok-yes.yes ↔ HasSoundWords c.args.self.now.special.now (pools_of c.args.source.now) c.args.c word)
    (word_same c.get-word.result (value_at c.args.source.now.trie c.args.c) c.get-word.ensures.value)
    c.in_ok-yes.ensures
