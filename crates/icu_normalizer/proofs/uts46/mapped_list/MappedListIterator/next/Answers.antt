use Rattle.std.proofs.Common.{ℕ, ◌+◌, ◌-◌, ◌<◌, List, ◌∷◌, ◌++◌, take, drop, Option, option_to_list, sym, ap, ◌∙◌, arith}
use Rattle.icu_normalizer_core.proofs.full_lists.FullListLemmas.{items_first}
use Rattle.icu_normalizer.proofs.uts46.mapped_list.MappedListIterator.next.Goals as goal

pub returns-clause-steps : goal.returns-clause-steps
returns-clause-steps c =
    let it = c.self.inside in
    let order = c.self.invariant.0 in
    let other = c.if-self.false in
    let before : it.next < it.end = omega arith in
    let rest : List ℕ = take (it.end - (it.next + 1)) (drop (it.next + 1) it.items.now) in
    sym c.self.view_is
    ∙ ap (λ (o : Option ℕ). option_to_list o ++ take (it.end - it.next) (drop it.next it.items.now)) c.in_default.is
    ∙ items_first it.items.now it.next it.end before c.self.invariant.1
    ∙ ap (λ (x : ℕ). x ∷ rest) (sym (c.at.ensures.item 0))
    ∙ ap (λ (o : Option ℕ). c.at.result ∷ (option_to_list o ++ rest)) (sym c.in_default.is)
