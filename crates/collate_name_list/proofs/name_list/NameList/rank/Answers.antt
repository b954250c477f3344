use Rattle.std.proofs.Common.{◌≡◌, ◌∙◌, ◌<◌, ◌^◌, List, Option, ap, sym, subst, arith, length, nat_cmp}
use Rattle.std.specs.Cmp.Lexicographic.{slice_cmp}
use Rattle.collate_lists.specs.Search.{IsRankOf}
use Rattle.collate_name_list.specs.Slots.{AreFronted, slots_of, slots_by_key, entry_at}
use Rattle.collate_name_list.specs.declared.slots.Stored.{Stored}
use Rattle.collate_name_list.proofs.KeptLemmas.{length_sorted, rank_sorted}
use Rattle.collate_name_list.proofs.name_list.NameList.rank.Goals as goal

pub rank_of_key-requires-clause-order : goal.rank_of_key-requires-clause-order
rank_of_key-requires-clause-order c = c.self.invariant.by_key ∙ sym (ap slots_by_key c.as_slice.ensures.value)

pub rank_of_key-requires-clause-fronts : goal.rank_of_key-requires-clause-fronts
rank_of_key-requires-clause-fronts c =
    subst (λ (slots : List (Option Stored)). AreFronted slots c.self.inside.by_key) (sym c.as_slice.ensures.value) c.self.invariant.fronts

pub returns-clause-bound : goal.returns-clause-bound
returns-clause-bound c = omega (arith, c.rank_of_key.ensures.bound, length_sorted c.self.inside c.self.invariant c.args.self.now c.self.view_is)

pub returns-clause-rank : goal.returns-clause-rank
returns-clause-rank c =
    rank_sorted c.self.inside c.self.invariant c.args.self.now c.self.view_is c.args.past_equal c.args.key.now c.rank_of_key.result c.rank_of_key.ensures.bound
    (subst (λ (slots : List (Option Stored)). IsRankOf (λ m. slice_cmp nat_cmp (entry_at slots m).key c.args.key.now) c.args.past_equal (slots_of c.self.inside.by_key) c.rank_of_key.result)
    c.as_slice.ensures.value c.rank_of_key.ensures.rank)

pub returns-clause-few : goal.returns-clause-few
returns-clause-few c digits h =
    c.rank_of_key.ensures.few digits (let same : length (slots_of c.self.inside.by_key) ≡ _ = length_sorted c.self.inside c.self.invariant c.args.self.now c.self.view_is in subst (λ n. n < 2 ^ digits) (sym same) h)
