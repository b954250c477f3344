use Rattle.icu_normalizer_core.specs.CanonicalMeaning.{lists_of}
use Rattle.icu_normalizer_core.proofs.composed.SteadyLemmas.{no_second}
use Rattle.icu_normalizer_core.proofs.canonical.check.steady.refuse_others.Goals as goal

pub refuse_told-requires-clause-seconds : goal.refuse_told-requires-clause-seconds
refuse_told-requires-clause-seconds c = λ d a yes.
    no_second (lists_of c.args.tables.now) d (λ i. c.refuse_seconds.ensures.unlisted d i yes) (c.refuse_letters.ensures d (c.refuse_seconds.ensures.among d yes)) a
