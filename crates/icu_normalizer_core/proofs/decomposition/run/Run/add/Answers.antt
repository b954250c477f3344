use Rattle.std.proofs.Common.{[], ◌∷◌, ◌++◌, sym, ap, ◌∙◌, arith}
use Rattle.icu_normalizer_core.specs.Canonical.{Canonical, marks_in_order}
use Rattle.icu_normalizer_core.specs.Run.{reordered, data_of}
use Rattle.icu_normalizer_core.proofs.decomposed_lists.RunLemmas.{out, out_mark, out_before_starter, out_starter}
use Rattle.icu_normalizer_core.proofs.decomposition.run.Run.add.Goals as goal

pub returns-in_ok-push-clause-ok : goal.returns-in_ok-push-clause-ok
unfolding reordered
returns-in_ok-push-clause-ok c =
    let b = c.args.self.now in
    let done = c.finish.new.self in
    let class = (data_of b).class in
    let same = c.in_ok-finish.ensures.same in
    record {
      at = λ rest.
          out_before_starter class b.chars.items b.next b.ready c.args.c rest (omega arith)
          ∙ ap (λ l. l ++ c.args.c ∷ marks_in_order class rest) (sym c.in_ok-finish.ensures.output)
          ∙ ap (λ (k : Canonical). out k.class done.chars.items done.next done.ready [] ++ c.args.c ∷ marks_in_order class rest) same
          ∙ out_starter class done.chars.items done.next done.ready c.len-self.result c.args.c rest (omega (arith, done.taken, done.within))
          (omega (arith, c.in_ok-finish.ensures.ready)) (omega (arith, c.in_ok-push.ensures.len))
          ∙ ap (λ l. out class l done.next c.len-self.result rest) (sym c.in_ok-push.ensures.ok)
          ∙ ap (λ (k : Canonical). out k.class c.push.new.self.items done.next c.len-self.result rest) (sym same);
    }

pub returns-in_ok-push-2-clause-ok : goal.returns-in_ok-push-2-clause-ok
unfolding reordered
returns-in_ok-push-2-clause-ok c =
    let b = c.args.self.now in
    let class = (data_of b).class in
    record {
      at = λ rest.
          out_mark class b.chars.items b.next b.ready c.args.c rest b.within
          ∙ ap (λ l. out class l b.next b.ready rest) (sym c.in_ok-push-2.ensures.ok);
    }
