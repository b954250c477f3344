use Rattle.std.proofs.Common.{[], sym, subst, nat_cmp}
use Rattle.std.specs.List.{All}
use Rattle.std.specs.List.Sorted.{IsPartitionedBy}
use Rattle.std.specs.Cmp.Lexicographic.{slice_cmp}
use Rattle.collate_lists.specs.Search.{stands_before}
use Rattle.collate_name_list.specs.StoredNames.{key_order}
use Rattle.collate_name_list.specs.Slots.{IsFull, entry_at}
use Rattle.collate_name_list.proofs.SlotRankLemmas.{all_full, parted_slots, key_total}
use Rattle.collate_name_list.proofs.slots.rank_of_key.Goals as goal

pub rank_of_sought-requires-clause-full : goal.rank_of_sought-requires-clause-full
rank_of_sought-requires-clause-full c = subst (All (IsFull c.args.slots.now)) (sym c.requires.order) (all_full key_order c.args.slots.now)

pub rank_of_sought-requires-clause-parted : goal.rank_of_sought-requires-clause-parted
rank_of_sought-requires-clause-parted c =
    subst (λ ms. IsPartitionedBy (λ m. stands_before c.args.past_equal (slice_cmp nat_cmp (entry_at c.args.slots.now m).key c.args.key.now)) ms) (sym c.requires.order)
    (parted_slots key_order c.args.slots.now key_total c.args.past_equal (record { key = c.args.key.now; name = [] }))
