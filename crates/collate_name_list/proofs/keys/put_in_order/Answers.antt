use Rattle.std.proofs.Common.{◌≡◌, ◌∙◌, ℕ, List, Option, Some, None, true, get_or, ap, sym, subst, nat_cmp}
use Rattle.std.specs.List.{All, insert}
use Rattle.std.specs.List.Sorted.{IsPartitionedBy}
use Rattle.std.specs.Cmp.Lexicographic.{slice_cmp}
use Rattle.std.specs.Ordering.{ordering_then}
use Rattle.collate_lists.specs.Search.{IsRankOf, stands_before}
use Rattle.collate_lists.specs.declared.windows.FrontedSlot.{FrontedSlot}
use Rattle.collate_name_list.specs.Slots.{AreFronted, IsFull, entry_at, entry_or_none, slots_of}
use Rattle.collate_name_list.specs.declared.slots.Stored.{Stored}
use Rattle.collate_name_list.proofs.FrontedLemmas.{slots-insert}
use Rattle.collate_name_list.proofs.RekeyLemmas.{ok_then}
use Rattle.collate_name_list.proofs.SettledLemmas.{fronts_put, settled_full, settled_kept_here, settled_none_by_key, settled_parted, settled_put}
use Rattle.collate_name_list.proofs.keys.put_in_order.Goals as goal

pub rank_of_sought-rank-requires-clause-full : goal.rank_of_sought-rank-requires-clause-full
rank_of_sought-rank-requires-clause-full c =
    subst (All (IsFull c.args.slots.now)) (sym c.requires.order) (settled_full c.args.slots.now c.args.keys.now c.args.slot)

pub rank_of_sought-rank-requires-clause-parted : goal.rank_of_sought-rank-requires-clause-parted
rank_of_sought-rank-requires-clause-parted c =
    let slots = c.args.slots.now in
    let stored = c.in-Some.stored.now in
    let read : get_or slots c.args.slot None ≡ Some stored = sym c.in-Some.ensures in
    let key : stored.key ≡ (entry_at slots c.args.slot).key = sym (ap (λ (o : Option Stored). (entry_or_none o).key) read) in
    subst (λ (ms : List ℕ). IsPartitionedBy (λ m. stands_before true (ordering_then (slice_cmp nat_cmp (entry_at slots m).key stored.key) (nat_cmp m c.args.slot))) ms)
    (sym c.requires.order) (settled_parted slots c.args.keys.now c.args.slot c.args.slot stored.key key)

pub returns-in-Some-clause-order : goal.returns-in-Some-clause-order
returns-in-Some-clause-order c =
    let slots = c.args.slots.now in
    let stored = c.in-Some.stored.now in
    let rank = c.rank_of_sought-rank.result in
    let read : get_or slots c.args.slot None ≡ Some stored = sym c.in-Some.ensures in
    let put : FrontedSlot = record { front = c.front-front.result; slot = c.args.slot } in
    let found = subst (λ (ms : List ℕ). IsRankOf (λ m. ordering_then (slice_cmp nat_cmp (entry_at slots m).key stored.key) (nat_cmp m c.args.slot)) true ms rank)
    c.requires.order c.rank_of_sought-rank.ensures.rank in
    ok_then c.insert.result c.insert.ensures.inserted (λ is.
    ap slots_of is ∙ slots-insert c.args.ranked.now rank put ∙ ap (λ (ms : List ℕ). insert ms rank c.args.slot) c.requires.order
    ∙ sym (settled_put slots c.args.keys.now c.args.slot c.requires.within stored rank read (sym c.has_kept.ensures ∙ c.if-has_kept.false) found))

pub returns-in-Some-clause-fronts : goal.returns-in-Some-clause-fronts
returns-in-Some-clause-fronts c =
    let read : get_or c.args.slots.now c.args.slot None ≡ Some c.in-Some.stored.now = sym c.in-Some.ensures in
    let put : FrontedSlot = record { front = c.front-front.result; slot = c.args.slot } in
    ok_then c.insert.result c.insert.ensures.inserted (λ is.
    subst (AreFronted c.args.slots.now) (sym is) (fronts_put c.args.slots.now c.args.ranked.now c.rank_of_sought-rank.result put c.in-Some.stored.now c.requires.fronts read c.front-front.ensures))

pub returns-in-None-clause-order : goal.returns-in-None-clause-order
returns-in-None-clause-order c =
    c.requires.order ∙ sym (settled_none_by_key c.args.slots.now c.args.keys.now c.args.slot c.requires.within (sym c.in-None.ensures))

pub returns-then-has_kept-clause-order : goal.returns-then-has_kept-clause-order
returns-then-has_kept-clause-order c =
    c.requires.order ∙ sym (settled_kept_here c.args.slots.now c.args.keys.now c.args.slot c.requires.within (sym c.has_kept.ensures ∙ c.if-has_kept.true))
