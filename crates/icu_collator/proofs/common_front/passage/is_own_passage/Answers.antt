use Rattle.std.proofs.Common.{rules, subst}
use Rattle.std.specs.Char.{IsScalar}
use Rattle.std.proofs.lemmas.Bool.{ne_eqb}
use Rattle.icu_normalizer_core.specs.Canonical.{IsDecomposing}
use Rattle.icu_normalizer_core.specs.CanonicalMeaning.{meaning}
use Rattle.icu_collator.proofs.boundaries.ReadingStartLemmas.{open_beginning}
use Rattle.icu_collator.proofs.common_front.passage.is_own_passage.Goals as goal

pub returns : goal.returns
returns c = λ begins.
    let source = c.args.checked.now in
    let scalar : IsScalar c.args.c = search rules in
    let decomposing : IsDecomposing (meaning source.canonical) = subst (λ tables. IsDecomposing (meaning tables)) c.canonical.ensures c.keep_promise.ensures.decomposing in
    open_beginning source c.args.c decomposing scalar (c.is_own_beginning.ensures begins) (ne_eqb c.args.c 0x303 c.if-c-eq771.false)
