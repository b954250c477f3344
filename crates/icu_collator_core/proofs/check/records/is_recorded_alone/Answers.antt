use Rattle.std.proofs.Common.{◌∙◌, ap}
use Rattle.icu_collator_core.specs.ContextFaults.{are_others, entry_in}
use Rattle.icu_collator_core.specs.Pools.{elements_of_word}
use Rattle.icu_collator_core.specs.TableMeaning.{pools_of}
use Rattle.icu_collator_core.proofs.checks.ContextLemmas.{alone_recorded}
use Rattle.icu_collator_core.proofs.check.records.is_recorded_alone.Goals as goal

pub returns : goal.returns
returns c =
    c.has_other_elements.ensures
    ∙ ap (λ word. are_others c.args.c (elements_of_word (pools_of c.args.source.now) word)) c.lone_word.ensures
    ∙ alone_recorded (entry_in c.args.source.now c.args.word) c.args.c
