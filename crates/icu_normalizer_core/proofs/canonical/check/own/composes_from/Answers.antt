use Rattle.std.proofs.Common.{◌≡◌, ℕ, ap, ◌∷◌, [], sym, ◌∙◌}
use Rattle.std.proofs.lemmas.Bool.{false≢true, eq-eqb, eqb-true}
use Rattle.icu_normalizer_core.specs.CanonicalMeaning.{meaning}
use Rattle.icu_normalizer_core.proofs.composed.CompositionLemmas.{joined_at, apart_at, end_at}
use Rattle.icu_normalizer_core.proofs.canonical.check.own.composes_from.Goals as goal

pub returns-in-None : goal.returns-in-None
returns-in-None c = (
  λ t. absurd (false≢true t),
  λ e. absurd (apart_at (meaning c.args.tables.now) c.loop-next.starter c.args.c c.loop-next.next-index c.args.rest.now c.loop-next-test.true
      (sym c.composed_pair.ensures ∙ c.in-None.is) (c.loop-next.invariant ∙ e)),
)

pub loop-next-preserved : goal.loop-next-preserved
loop-next-preserved c =
    sym (joined_at (meaning c.args.tables.now) c.loop-next.starter c.in-Some.z c.loop-next.next-index c.args.rest.now c.loop-next-test.true (sym c.composed_pair.ensures ∙ c.in-Some.is))
    ∙ c.loop-next.invariant

pub returns : goal.returns
returns c =
    let end = end_at (meaning c.args.tables.now) c.loop-next.starter c.loop-next.next-index c.args.rest.now c.loop-next-test.false in (
      λ t. sym c.loop-next.invariant ∙ end ∙ ap (λ (n : ℕ). n ∷ []) (eqb-true c.loop-next.starter c.args.c t),
      λ e. let same : c.loop-next.starter ∷ [] ≡ c.args.c ∷ [] = sym end ∙ c.loop-next.invariant ∙ e in eq-eqb c.loop-next.starter c.args.c (cc),
    )
