use Rattle.std.proofs.Common.{◌-◌, ◌^◌, List, Option, inl, inr, ⊎_elim, sym, subst}
use Rattle.icu_normalizer_core.specs.declared.canonical.check.left.Left.{Left}
use Rattle.icu_normalizer_core.specs.Settled.{AreStarts, IsDone}
use Rattle.icu_normalizer_core.proofs.building.FullListWordLemmas.{settled_lists, settled_words, unsettled_end}
use Rattle.icu_normalizer_core.proofs.building.ListRoomLemmas.{long_lists}
use Rattle.icu_normalizer_core.proofs.builder.full_lists.full_lists.Goals as goal

pub list_words-requires : goal.list_words-requires
list_words-requires c =
    settled_lists c.args.steps.now c.as_slice.result.now c.requires.triples c.requires.free
    (subst (λ (xs : List (Option Left)). AreStarts c.args.steps.now xs) (sym c.as_slice.ensures.value) c.in_ok-settled.ensures.starts)

pub returns-in-Ok-clause-words : goal.returns-in-Ok-clause-words
returns-in-Ok-clause-words c =
    settled_words c.args.steps.now c.as_slice.result.now c.requires.triples c.requires.free
    (subst (λ (xs : List (Option Left)). AreStarts c.args.steps.now xs) (sym c.as_slice.ensures.value) c.in_ok-settled.ensures.starts)
    c.in-Ok.lists c.in-Ok.ensures.states

pub returns-clause-refused : goal.returns-clause-refused
returns-clause-refused c =
    ⊎_elim
    (λ memory. inl memory)
    (λ w.
    let starts : AreStarts c.args.steps.now c.as_slice.result.now = subst (λ (xs : List (Option Left)). AreStarts c.args.steps.now xs) (sym c.as_slice.ensures.value) c.in_ok-settled.ensures.starts in
    inr (
      w.0,
      ⊎_elim
          (λ unsettled. inl (unsettled_end c.args.steps.now c.as_slice.result.now c.requires.triples c.requires.free starts
          (subst (λ (xs : List (Option Left)). IsDone c.args.steps.now xs) (sym c.as_slice.ensures.value) c.in_ok-settled.ensures.done) unsettled))
          (λ many. inr (long_lists c.args.steps.now c.requires.triples c.as_slice.result.now c.requires.free starts (2 ^ 14 - 1) many))
          w.1,
    ))
    c.in-Err.ensures.refused
