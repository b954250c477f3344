use Rattle.std.proofs.Common.{inl, inr, ⊎_elim, refl, sym, subst, ◌∙◌}
use Rattle.std.proofs.lemmas.Bool.{false≢true}
use Rattle.icu_normalizer_core.specs.Named.{AreInFewBlocks}
use Rattle.icu_normalizer_core.proofs.building.NamedLemmas.{few_blocks}
use Rattle.icu_normalizer_core.proofs.builder.names.distinct_few.Goals as goal

pub returns-in-Err-clause-refused : goal.returns-in-Err-clause-refused
returns-in-Err-clause-refused c = ⊎_elim (λ memory. inl memory) (λ w. inr (w.0, inl w.1)) c.in-Err.ensures.refused

pub returns-then-not-branch-clause-refused : goal.returns-then-not-branch-clause-refused
returns-then-not-branch-clause-refused c =
    inr (
      refl,
      inr (λ all.
          absurd (false≢true (sym c.if-not-branch.true ∙ c.in_ok-are_in_few_blocks.ensures.1
          (subst AreInFewBlocks (sym c.as_slice.ensures.value) (few_blocks c.args.all.now c.in-Ok.list.items c.in-Ok.ensures.distinct all))))),
    )

pub returns-clause-blocks : goal.returns-clause-blocks
returns-clause-blocks c = subst AreInFewBlocks c.as_slice.ensures.value (c.in_ok-are_in_few_blocks.ensures.0 c.if-not-branch.false)
