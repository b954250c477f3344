-- lists of lines after their slots were put in order, or some of them let go, and what is found in them
use Rattle.std.proofs.Common.{◌≡◌, ℕ, ◌∙◌, Bool, List, Option, Some, None, ap, arith, length, map, refl, subst, sym}
use Rattle.std.specs.Prelude.{Err, IfNone, IfSome, Ok, OnErr, OnOk, Result, slice_get}
use Rattle.std.specs.Option.{option_map}
use Rattle.std.specs.List.{All, dedup}
use Rattle.std.specs.declared.cmp.Ordering.{Ordering}
use Rattle.std.proofs.lemmas.List.{length-map}
use Rattle.std.proofs.lemmas.List.Elements.{All-same}
use Rattle.std.proofs.lemmas.List.Sorted.{All-permutation}
use Rattle.std.proofs.lemmas.Option.{IfSome_then, slice_get-map}
use Rattle.std.proofs.lemmas.Result.{on_ok_weaker}
use Rattle.collate_lists.specs.Names.{in_order}
use Rattle.collate_lists.proofs.NamesLemmas.{Rises-in_order, in_order_is_permutation}
use Rattle.collate_keyed_lines.specs.KeyedLines.{AreInOrder, IsFirstUnordered, KeyedLine, first_of_equals, is_same, key_order, turned}
use Rattle.collate_keyed_lines.specs.Slots.{IsKept, IsSlotOf, line_of, lines_inside, slot_order}
use Rattle.collate_keyed_lines.specs.declared.direction.Direction.{Direction}
use Rattle.collate_keyed_lines.specs.declared.direction.Direction.TheVariants.{Ascending, Descending}
use Rattle.collate_keyed_lines.specs.declared.lines.KeyedLines.TheInside.{Inside}
use Rattle.collate_keyed_lines.specs.declared.slots.Bounds.{Bounds}
use Rattle.collate_keyed_lines.specs.declared.slots.Slot.{Slot}
use Rattle.collate_keyed_lines.proofs.FirstLemmas.{All-dedup, dedup_alike, first_kept, same_back}
use Rattle.collate_keyed_lines.proofs.MappedLemmas.{dedup_mapped, in_order_mapped, order_mapped, unordered_mapped}
use Rattle.collate_keyed_lines.proofs.SlotLemmas.{compare_alike, key_order_total, turned_alike, turned_total}

-- a slot for the want of one
abbrev no_slot : Slot
no_slot = record { front = 0; index = 0 }

-- what holds of values holds of them in order, and where they stand as before
pub sorted_all : {A T E : Type 0} (R : A → A → Ordering) (P : A → Type 0) (result : Result T E) (xs ys : List A) → OnOk result (ys ≡ in_order R xs) → OnErr result (ys ≡ xs) → All P xs → All P ys
sorted_all R P (Ok x) xs ys sorted unchanged all = All-same P ys (in_order R xs) sorted (All-permutation P xs (in_order R xs) (in_order_is_permutation R xs) all)
sorted_all R P (Err e) xs ys sorted unchanged all = All-same P ys xs unchanged all

pub none_then : {X P Q : Type 0} (result : Option X) → (P → Q) → IfNone result P → IfNone result Q
none_then None f h = f h
none_then (Some x) f h = tt

same_turned : (d : Direction) (lines : List KeyedLine) → dedup (is_same key_order) lines ≡ dedup (is_same (turned d key_order)) lines
same_turned Ascending lines = refl
same_turned Descending lines = dedup_alike (is_same key_order) (is_same (turned Descending key_order)) (same_back key_order key_order_total) lines

-- of lines in order those that aren't equal to the last one kept are the first of equal ones
pub first_in_order : (d : Direction) (lines : List KeyedLine) → dedup (is_same key_order) (in_order (turned d key_order) lines) ≡ first_of_equals (turned d key_order) (in_order (turned d key_order) lines)
first_in_order d lines =
    same_turned d (in_order (turned d key_order) lines)
    ∙ first_kept (turned d key_order) (turned_total key_order key_order_total d) (in_order (turned d key_order) lines)
    (Rises-in_order (turned d key_order) (turned_total key_order key_order_total d) lines)

module _ (s : Inside) (kept : IsKept s) (now : List KeyedLine) (is : lines_inside s ≡ now)
    (bytes : List ℕ) (bounds : List Bounds) (same_bytes : bytes ≡ s.bytes.items) (same_bounds : bounds ≡ s.bounds.items) where
  abbrev stands : Slot → KeyedLine
  stands = line_of s.bytes.items s.bounds.items

  abbrev of : Slot → Type 0
  of = IsSlotOf s.bytes.items s.bounds.items

  abbrev order : Slot → Slot → Ordering
  order = slot_order s.bytes.items s.bounds.items

  -- what holds of the lists that were lent holds of those inside
  lent : (P : List ℕ → List Bounds → Type 0) → P bytes bounds → P s.bytes.items s.bounds.items
  lent P h = subst (λ (cs : List Bounds). P s.bytes.items cs) same_bounds (subst (λ (bs : List ℕ). P bs bounds) same_bytes h)

  pub sorted_slots : {T E : Type 0} (d : Direction) (result : Result T E) (slots : List Slot)
      → OnOk result (slots ≡ in_order (turned d (slot_order bytes bounds)) s.slots.items) → OnErr result (slots ≡ s.slots.items)
      → All (IsSlotOf s.bytes.items s.bounds.items) slots
  sorted_slots d result slots sorted unchanged =
      sorted_all (turned d (slot_order bytes bounds)) (IsSlotOf s.bytes.items s.bounds.items) result s.slots.items slots sorted unchanged kept.slots

  sorted_to : (d : Direction) (slots : List Slot) → slots ≡ in_order (turned d (slot_order bytes bounds)) s.slots.items
      → map (line_of s.bytes.items s.bounds.items) slots ≡ in_order (turned d key_order) now
  sorted_to d slots told =
      ap (map (line_of s.bytes.items s.bounds.items)) (lent (λ bs cs. slots ≡ in_order (turned d (slot_order bs cs)) s.slots.items) told)
      ∙ in_order_mapped stands of (turned d order) (turned d key_order) (turned_alike s.bytes.items s.bounds.items d) s.slots.items kept.slots
      ∙ ap (in_order (turned d key_order)) is

  pub sorted_lines : {T E : Type 0} (d : Direction) (result : Result T E) (slots : List Slot)
      → OnOk result (slots ≡ in_order (turned d (slot_order bytes bounds)) s.slots.items)
      → OnOk result (map (line_of s.bytes.items s.bounds.items) slots ≡ in_order (turned d key_order) now)
  sorted_lines d result slots sorted = on_ok_weaker result (sorted_to d slots) sorted

  pub kept_slots : (slots : List Slot) → slots ≡ dedup (is_same (slot_order bytes bounds)) s.slots.items → All (IsSlotOf s.bytes.items s.bounds.items) slots
  kept_slots slots told =
      All-same (IsSlotOf s.bytes.items s.bounds.items) slots (dedup (is_same (slot_order bytes bounds)) s.slots.items) told
      (All-dedup (is_same (slot_order bytes bounds)) (IsSlotOf s.bytes.items s.bounds.items) s.slots.items kept.slots)

  pub kept_lines : (slots : List Slot) → slots ≡ dedup (is_same (slot_order bytes bounds)) s.slots.items
      → map (line_of s.bytes.items s.bounds.items) slots ≡ dedup (is_same key_order) now
  kept_lines slots told =
      ap (map (line_of s.bytes.items s.bounds.items)) (lent (λ bs cs. slots ≡ dedup (is_same (slot_order bs cs)) s.slots.items) told)
      ∙ dedup_mapped stands of order key_order (compare_alike s.bytes.items s.bounds.items) s.slots.items kept.slots
      ∙ ap (dedup (is_same key_order)) is

  module _ (d : Direction) (unique : Bool) (slots : List Slot) (same_slots : slots ≡ s.slots.items) (result : Option ℕ) where
    pub unordered_none : IfNone result (AreInOrder unique (turned d (slot_order bytes bounds)) slots (length slots))
        → IfNone result (AreInOrder unique (turned d key_order) now (length now))
    unordered_none told =
        none_then result
        (λ h. subst (λ (lines : List KeyedLine). AreInOrder unique (turned d key_order) lines (length lines)) is
        (subst (λ (n : ℕ). AreInOrder unique (turned d key_order) (lines_inside s) n) (sym (length-map s.slots.items (line_of s.bytes.items s.bounds.items)))
        (order_mapped stands of (turned d order) (turned d key_order) (turned_alike s.bytes.items s.bounds.items d) no_slot unique s.slots.items kept.slots (length s.slots.items) (omega arith)
        (subst (λ (ss : List Slot). AreInOrder unique (turned d (slot_order s.bytes.items s.bounds.items)) ss (length ss)) same_slots
        (lent (λ bs cs. AreInOrder unique (turned d (slot_order bs cs)) slots (length slots)) h)))))
        told

    pub unordered_first : IfSome result (IsFirstUnordered unique (turned d (slot_order bytes bounds)) slots)
        → IfSome result (IsFirstUnordered unique (turned d key_order) now)
    unordered_first told =
        IfSome_then result told
        (λ index h. subst (λ (lines : List KeyedLine). IsFirstUnordered unique (turned d key_order) lines index) is
        (unordered_mapped stands of (turned d order) (turned d key_order) (turned_alike s.bytes.items s.bounds.items d) no_slot unique s.slots.items kept.slots index
        (subst (λ (ss : List Slot). IsFirstUnordered unique (turned d (slot_order s.bytes.items s.bounds.items)) ss index) same_slots
        (lent (λ bs cs. IsFirstUnordered unique (turned d (slot_order bs cs)) slots index) h))))

  -- what stands at an index is what the slot there stands for
  pub found_at : {B : Type 0} (part : KeyedLine → B) (slots : List Slot) (same_slots : slots ≡ s.slots.items) (index : ℕ) (slot : Slot) (found : B)
      → found ≡ part (line_of bytes bounds slot) → Some slot ≡ slice_get slots index → Some found ≡ slice_get (map part now) index
  found_at part slots same_slots index slot found told at =
      sym (slice_get-map part now index
      ∙ ap (λ (lines : List KeyedLine). option_map part (slice_get lines index)) (sym is)
      ∙ ap (option_map part) (slice_get-map stands s.slots.items index)
      ∙ ap (λ (ss : List Slot). option_map part (option_map stands (slice_get ss index))) (sym same_slots)
      ∙ ap (λ (o : Option Slot). option_map part (option_map stands o)) (sym at)
      ∙ sym (ap (λ x. Some x) (lent (λ bs cs. found ≡ part (line_of bs cs slot)) told)))
