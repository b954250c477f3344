use Rattle.icu_normalizer_core.specs.CanonicalMeaning.{lists_of}
use Rattle.icu_normalizer_core.specs.Words.{word_lists}
use Rattle.icu_normalizer_core.proofs.compatible.CompatibilityWalkLemmas.{faults_further}
use Rattle.icu_normalizer_core.proofs.compatibility.check.walk.look_on.Goals as goal

pub returns-then-code-passed-clause-below : goal.returns-then-code-passed-clause-below
returns-then-code-passed-clause-below c =
    faults_further (lists_of c.args.tables.now) (word_lists c.args.words) c.args.looked.code c.args.looked.faults c.requires.below c.harmless_end-passed.result c.harmless_end-passed.ensures.harmless
