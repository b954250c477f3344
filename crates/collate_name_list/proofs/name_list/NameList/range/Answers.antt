use Rattle.std.proofs.Common.{◌≡◌, ◌∙◌, ◌<◌, ◌^◌, List, Option, true, false, ap, sym, subst, arith, length, nat_cmp}
use Rattle.std.specs.Cmp.Lexicographic.{slice_cmp}
use Rattle.collate_lists.specs.Search.{IsRankOf}
use Rattle.collate_name_list.specs.Slots.{AreFronted, slots_of, slots_by_key, entry_at}
use Rattle.collate_name_list.specs.declared.slots.Stored.{Stored}
use Rattle.collate_name_list.proofs.KeptLemmas.{length_sorted, rank_sorted}
use Rattle.collate_name_list.proofs.name_list.NameList.range.Goals as goal

pub range_of_key-requires-clause-order : goal.range_of_key-requires-clause-order
range_of_key-requires-clause-order c = c.self.invariant.by_key ∙ sym (ap slots_by_key c.as_slice.ensures.value)

pub range_of_key-requires-clause-fronts : goal.range_of_key-requires-clause-fronts
range_of_key-requires-clause-fronts c =
    subst (λ (slots : List (Option Stored)). AreFronted slots c.self.inside.by_key) (sym c.as_slice.ensures.value) c.self.invariant.fronts

pub returns-clause-bound : goal.returns-clause-bound
returns-clause-bound c = omega (arith, c.range_of_key.ensures.bound, length_sorted c.self.inside c.self.invariant c.args.self.now c.self.view_is)

pub returns-clause-start : goal.returns-clause-start
returns-clause-start c =
    rank_sorted c.self.inside c.self.invariant c.args.self.now c.self.view_is false c.args.key.now c.range_of_key.result.0 (omega (arith, c.range_of_key.ensures.ordered, c.range_of_key.ensures.bound))
    (subst (λ (slots : List (Option Stored)). IsRankOf (λ m. slice_cmp nat_cmp (entry_at slots m).key c.args.key.now) false (slots_of c.self.inside.by_key) c.range_of_key.result.0)
    c.as_slice.ensures.value c.range_of_key.ensures.start)

pub returns-clause-end : goal.returns-clause-end
returns-clause-end c =
    rank_sorted c.self.inside c.self.invariant c.args.self.now c.self.view_is true c.args.key.now c.range_of_key.result.1 c.range_of_key.ensures.bound
    (subst (λ (slots : List (Option Stored)). IsRankOf (λ m. slice_cmp nat_cmp (entry_at slots m).key c.args.key.now) true (slots_of c.self.inside.by_key) c.range_of_key.result.1)
    c.as_slice.ensures.value c.range_of_key.ensures.end)

pub returns-clause-few : goal.returns-clause-few
returns-clause-few c digits h =
    c.range_of_key.ensures.few digits (let same : length (slots_of c.self.inside.by_key) ≡ _ = length_sorted c.self.inside c.self.invariant c.args.self.now c.self.view_is in subst (λ n. n < 2 ^ digits) (sym same) h)

pub returns-clause-some : goal.returns-clause-some
returns-clause-some c h =
    c.range_of_key.ensures.some (let same : length (slots_of c.self.inside.by_key) ≡ _ = length_sorted c.self.inside c.self.invariant c.args.self.now c.self.view_is in subst (λ n. 0 < n) (sym same) h)
