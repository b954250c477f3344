use Rattle.std.proofs.Common.{[], false, true, arith, sym, subst, nat_cmp}
use Rattle.std.specs.List.{All}
use Rattle.std.specs.List.Sorted.{IsPartitionedBy}
use Rattle.std.specs.Cmp.Lexicographic.{slice_cmp}
use Rattle.collate_lists.specs.Search.{stands_before}
use Rattle.collate_name_list.specs.StoredNames.{key_order}
use Rattle.collate_name_list.specs.Slots.{IsFull, entry_at}
use Rattle.collate_name_list.proofs.SlotRankLemmas.{all_full, parted_slots, key_total}
use Rattle.collate_name_list.proofs.slots.range_of_key.Goals as goal

pub span_of-span-requires-clause-full : goal.span_of-span-requires-clause-full
span_of-span-requires-clause-full c = subst (All (IsFull c.args.slots.now)) (sym c.requires.order) (all_full key_order c.args.slots.now)

pub span_of-span-requires-clause-parted : goal.span_of-span-requires-clause-parted
span_of-span-requires-clause-parted c =
    subst (λ ms. IsPartitionedBy (λ m. stands_before false (slice_cmp nat_cmp (entry_at c.args.slots.now m).key c.args.key.now)) ms) (sym c.requires.order)
    (parted_slots key_order c.args.slots.now key_total false (record { key = c.args.key.now; name = [] }))

pub span_of-span-requires-clause-parted_past : goal.span_of-span-requires-clause-parted_past
span_of-span-requires-clause-parted_past c =
    subst (λ ms. IsPartitionedBy (λ m. stands_before true (slice_cmp nat_cmp (entry_at c.args.slots.now m).key c.args.key.now)) ms) (sym c.requires.order)
    (parted_slots key_order c.args.slots.now key_total true (record { key = c.args.key.now; name = [] }))

pub rank_within-end-requires-clause-full : goal.rank_within-end-requires-clause-full
rank_within-end-requires-clause-full c = subst (All (IsFull c.args.slots.now)) (sym c.requires.order) (all_full key_order c.args.slots.now)

pub rank_within-end-requires-clause-parted : goal.rank_within-end-requires-clause-parted
rank_within-end-requires-clause-parted c =
    subst (λ ms. IsPartitionedBy (λ m. stands_before true (slice_cmp nat_cmp (entry_at c.args.slots.now m).key c.args.key.now)) ms) (sym c.requires.order)
    (parted_slots key_order c.args.slots.now key_total true (record { key = c.args.key.now; name = [] }))

pub returns-clause-few : goal.returns-clause-few
returns-clause-few c digits h = omega (arith, c.span_of-span.ensures.few digits h, c.rank_within-end.ensures.few digits h)

pub returns-clause-some : goal.returns-clause-some
returns-clause-some c h = omega (arith, c.span_of-span.ensures.some h, c.rank_within-end.ensures.grown)
