use Rattle.icu_collator_core.specs.TableMeaning.{pools_of, word_at}
use Rattle.icu_collator_core.proofs.checks.UnrecordedLemmas.{unrecorded_is_inside}
use Rattle.icu_collator_core.proofs.check.indices.IndexTestCharacterTest.next_code.Goals as goal

pub returns : goal.returns
returns c = record {
  onward = c.behind_unrecorded.ensures.onward;
  bound = c.behind_unrecorded.ensures.bound;
  passed = λ d from to.
      unrecorded_is_inside c.args.layer (pools_of c.args.source.now) (word_at c.args.source.now d) (c.behind_unrecorded.ensures.unrecorded d from to);
}
