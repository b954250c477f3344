use Rattle.std.proofs.Common.{◌≡◌, ◌+◌, ◌-◌, true, [], ◌∷◌, ◌++◌, take, ap, sym, subst, ◌∙◌, arith}
use Rattle.std.proofs.lemmas.List.{take_more}
use Rattle.icu_normalizer_core.specs.FormData.{form_meaning}
use Rattle.icu_normalizer.specs.Marks.{stands_to}
use Rattle.icu_normalizer.proofs.writing.OrderLemmas.{stands_last}
use Rattle.icu_normalizer.proofs.decomposing.writer.order.index_for.Goals as goal

pub returns-then-class-clause-behind : goal.returns-then-class-clause-behind
returns-then-class-clause-behind c = λ last stands.
    let class = (form_meaning c.args.basis).class in
    let list = c.args.list.now in
    let before = c.loop-index.index - 1 in
    let on : c.loop-index.index ≡ before + 1 = omega (arith, c.loop-index-test.true) in
    let front : take c.loop-index.index list ≡ take before list ++ c.index-list-index.result ∷ [] =
    ap (λ k. take k list) on ∙ take_more list before c.index-list-index.result (omega (arith, c.loop-index-test.true, c.loop-index.invariant.0))
    ∙ ap (λ d. take before list ++ d ∷ []) (sym c.index-list-index.is) in
    let is : last ≡ class c.index-list-index.result =
    stands_last class 0 last (take before list) c.index-list-index.result (subst (λ l. stands_to class 0 last l ≡ true) front stands) in
    let class_is = c.class.ensures in
    let low = c.if-class.true in
    omega (arith, is, class_is, low)
