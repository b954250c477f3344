use Rattle.std.proofs.Common.{subst, sym}
use Rattle.icu_collator_core.specs.TableMeaning.{pools_of}
use Rattle.icu_collator_core.specs.UnsafeWords.{ReadingGives}
use Rattle.icu_collator_core.specs.WeightLists.{Grows}
use Rattle.icu_collator_core.proofs.unsafe_characters.context_texts.gather_reading.Goals as goal

pub returns-in_ok-gather_met-in-Whole : goal.returns-in_ok-gather_met-in-Whole
returns-in_ok-gather_met-in-Whole c =
    subst (λ reading. Grows (ReadingGives (pools_of c.args.source.now) c.args.test.now.many reading c.args.word) c.args.characters.now.items c.gather_met.new.characters.items)
    (sym c.in-Whole.is) c.in_ok-gather_met-in-Whole.ensures
