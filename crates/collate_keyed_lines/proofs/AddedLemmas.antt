-- lists of lines after a line was added
use Rattle.std.proofs.Common.{◌≡◌, ℕ, ◌++◌, ◌∷◌, [], List, length, map, subst, sym}
use Rattle.std.specs.List.{All}
use Rattle.collate_lists.specs.Fronts.{IsFrontOf}
use Rattle.collate_keyed_lines.specs.Slots.{AreWithin, IsKept, IsSlotOf, line_between, line_of, lines_inside}
use Rattle.collate_keyed_lines.specs.declared.lines.KeyedLines.TheInside.{Inside}
use Rattle.collate_keyed_lines.specs.declared.slots.Bounds.{Bounds}
use Rattle.collate_keyed_lines.specs.declared.slots.Slot.{Slot}
use Rattle.collate_keyed_lines.proofs.SlotLemmas.{bounds_more, lines_more, slots_more}

module _ (s t : Inside) (kept : IsKept s) (more : List ℕ) (b : Bounds) (slot : Slot)
    (bytes : t.bytes.items ≡ s.bytes.items ++ more) (bounds : t.bounds.items ≡ s.bounds.items ++ b ∷ []) (slots : t.slots.items ≡ s.slots.items ++ slot ∷ [])
    (within : AreWithin t.bytes.items b) (at : slot.index ≡ length s.bounds.items) (front : IsFrontOf slot.front (line_between t.bytes.items b).key) where
  abbrev all_bytes : List ℕ
  all_bytes = s.bytes.items ++ more

  within' : AreWithin all_bytes b
  within' = subst (λ (bs : List ℕ). AreWithin bs b) bytes within

  front' : IsFrontOf slot.front (line_between all_bytes b).key
  front' = subst (λ (bs : List ℕ). IsFrontOf slot.front (line_between bs b).key) bytes front

  -- what holds of the lists as they are put together holds of them
  as_made : (P : List ℕ → List Bounds → List Slot → Type 0) → P all_bytes (s.bounds.items ++ b ∷ []) (s.slots.items ++ slot ∷ []) → P t.bytes.items t.bounds.items t.slots.items
  as_made P h =
      subst (λ (bs : List ℕ). P bs t.bounds.items t.slots.items) (sym bytes)
      (subst (λ (cs : List Bounds). P all_bytes cs t.slots.items) (sym bounds)
      (subst (λ (ss : List Slot). P all_bytes (s.bounds.items ++ b ∷ []) ss) (sym slots) h))

  pub added_kept : IsKept t
  added_kept = record {
    bounds = as_made (λ bs cs ss. All (AreWithin bs) cs) (bounds_more s.bytes.items more s.bounds.items s.slots.items kept.bounds kept.slots b slot within' at front');
    slots = as_made (λ bs cs ss. All (IsSlotOf bs cs) ss) (slots_more s.bytes.items more s.bounds.items s.slots.items kept.bounds kept.slots b slot within' at front');
  }

  pub added_lines : lines_inside t ≡ lines_inside s ++ line_between t.bytes.items b ∷ []
  added_lines =
      as_made (λ bs cs ss. map (line_of bs cs) ss ≡ lines_inside s ++ line_between bs b ∷ [])
      (lines_more s.bytes.items more s.bounds.items s.slots.items kept.bounds kept.slots b slot within' at front')
