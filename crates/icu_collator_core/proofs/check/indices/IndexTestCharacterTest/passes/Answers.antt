use Rattle.std.proofs.Common.{◌↔◌, subst}
use Rattle.std.specs.Bool.{IsTrue}
use Rattle.icu_codepointtrie.specs.Slots.{value_at}
use Rattle.icu_collator_core.specs.TableMeaning.{pools_of}
use Rattle.icu_collator_core.specs.WordIndices.{IsInside}
use Rattle.icu_collator_core.proofs.checks.CheckedListLemmas.{word_same}
use Rattle.icu_collator_core.proofs.check.indices.IndexTestCharacterTest.passes.Goals as goal

pub returns : goal.returns
returns c =
    subst (λ word. IsTrue c.in_ok-yes.yes ↔ IsInside (pools_of c.args.source.now) word)
    (word_same c.get-word.result (value_at c.args.source.now.trie c.args.c) c.get-word.ensures.value)
    c.in_ok-yes.ensures
