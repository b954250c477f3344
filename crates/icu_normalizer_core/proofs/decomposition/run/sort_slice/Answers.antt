use Rattle.std.proofs.Common.{rules}
use Rattle.std.proofs.lemmas.Fn.{always_returns_same}
use Rattle.std.proofs.lemmas.List.Sorted.{IsNonDecreasingBy-from_sort_by_key}
use Rattle.std.proofs.lemmas.Result.{on_ok_weaker}
use Rattle.icu_normalizer_core.specs.FormData.{form_meaning}
use Rattle.icu_normalizer_core.proofs.decomposed_lists.SortLemmas.{order_from_sort}
use Rattle.icu_normalizer_core.proofs.decomposition.run.sort_slice.Goals as goal

pub returns-clause-ok : goal.returns-clause-ok
returns-clause-ok c =
    let class = (form_meaning c.args.basis).class in
    let stable = c.sort_by_key.ensures.stable class (always_returns_same _ _ _ (λ a r f' called. (search rules, search rules))) in
    on_ok_weaker c.sort_by_key.result
    (λ sorted. order_from_sort class _ _ c.requires (IsNonDecreasingBy-from_sort_by_key class _ sorted (λ a r f' called. (search rules, search rules))) stable)
    c.sort_by_key.ensures.sorted
