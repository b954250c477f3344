use Rattle.std.proofs.Common.{get_or, sym, ap, ◌∙◌, arith}
use Rattle.icu_normalizer_core.specs.Run.{reordered, data_of}
use Rattle.icu_normalizer_core.proofs.decomposed_lists.RunLemmas.{out_pop, out_shift}
use Rattle.icu_normalizer_core.proofs.decomposition.run.Run.pop.Goals as goal

pub returns-then-self-clause-some : goal.returns-then-self-clause-some
unfolding reordered
returns-then-self-clause-some c =
    let b = c.args.self.now in
    record { at = λ rest. out_pop (data_of b).class b.chars.items b.next b.ready _ rest c.if-self.true b.within (c.index-deref-self.is ∙ ap (λ l. get_or l b.next c.index-deref-self.result) c.deref.ensures) }

pub returns-then-self-gt-KEPT-clause-none : goal.returns-then-self-gt-KEPT-clause-none
unfolding reordered
returns-then-self-gt-KEPT-clause-none c =
    let b = c.args.self.now in
    let left = c.drop_taken.ensures in (
      record { at = λ rest. out_shift (data_of b).class b.chars.items b.next b.ready rest c.if-self.false b.within ∙ sym (rw (left.chars, left.next, left.ready, left.same)) },
      omega arith,
    )
