use Rattle.icu_normalizer_core.specs.BorrowedMeaning.{borrowed_meaning}
use Rattle.icu_collator_core.specs.TableMeaning.{pools_of, weights_of, word_at}
use Rattle.icu_collator_core.proofs.checks.UnrecordedLemmas.{unrecorded_keeps_rules}
use Rattle.icu_collator_core.proofs.check.context_rules.ContextTestCharacterTest.next_code.Goals as goal

pub returns : goal.returns
returns c =
    let canonical = borrowed_meaning c.args.self.now.canonical in
    record {
      onward = c.behind_unrecorded.ensures.onward;
      bound = c.behind_unrecorded.ensures.bound;
      passed = λ d from to.
          unrecorded_keeps_rules canonical (weights_of canonical c.args.self.now.tables.now).digit c.args.layer
          (pools_of c.args.source.now) d (word_at c.args.source.now d) (c.behind_unrecorded.ensures.unrecorded d from to);
    }
