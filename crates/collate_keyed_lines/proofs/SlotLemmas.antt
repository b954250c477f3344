-- slots and the lines that they stand for: they compare alike, and one line more leaves the others as they were
use Rattle.std.proofs.Common.{◌≡◌, ℕ, ◌-◌, ◌<◌, ◌≤◌, List, [], ◌∷◌, ◌++◌, length, map, get_or, take, drop, refl, sym, ap, ◌∙◌, subst, arith, length-append, length-drop, ⊎_elim}
use Rattle.std.specs.Prelude.{slice_range}
use Rattle.std.specs.List.{All}
use Rattle.std.specs.Cmp.{IsTotalOrder}
use Rattle.std.specs.Ordering.{nat_cmp, ordering_then}
use Rattle.std.specs.declared.cmp.Ordering.{Ordering}
use Rattle.std.specs.declared.cmp.Ordering.TheVariants.{Less, Equal, Greater}
use Rattle.std.proofs.lemmas.Bool.{cases_lt}
use Rattle.std.proofs.lemmas.Cmp.{back_total, nat_cmp_total, nat_list_cmp_total, on_total, then_total}
use Rattle.std.proofs.lemmas.List.{drop-append-le, get_or_append_left, take-append-le}
use Rattle.std.proofs.lemmas.List.Elements.{All-head, All-push, All-tail, All-weaker}
use Rattle.std.proofs.Math.Seq.{get_or-append_seam}
use Rattle.collate_lists.specs.Fronts.{IsFrontOf}
use Rattle.collate_lists.proofs.SlotFrontLemmas.{fronts_tell}
use Rattle.collate_keyed_lines.specs.KeyedLines.{KeyedLine, key_order, turned}
use Rattle.collate_keyed_lines.specs.Slots.{AreWithin, IsSlotOf, line_between, line_of, no_bounds, slot_order}
use Rattle.collate_keyed_lines.specs.declared.direction.Direction.{Direction}
use Rattle.collate_keyed_lines.specs.declared.direction.Direction.TheVariants.{Ascending, Descending}
use Rattle.collate_keyed_lines.specs.declared.slots.Bounds.{Bounds}
use Rattle.collate_keyed_lines.specs.declared.slots.Slot.{Slot}

pub turned_total : {A : Type 0} (R : A → A → Ordering) → IsTotalOrder R → (d : Direction) → IsTotalOrder (turned d R)
turned_total R o Ascending = o
turned_total R o Descending = back_total o

pub key_order_total : IsTotalOrder key_order
key_order_total = on_total (λ (line : KeyedLine). line.key) nat_list_cmp_total

module _ (bytes : List ℕ) (bounds : List Bounds) where
  slots_total : IsTotalOrder (slot_order bytes bounds)
  slots_total = then_total (on_total (λ (slot : Slot). slot.front) nat_cmp_total) (on_total (λ (slot : Slot). (line_of bytes bounds slot).key) nat_list_cmp_total)

  pub turned_slots_total : (d : Direction) → IsTotalOrder (turned d (slot_order bytes bounds))
  turned_slots_total d = turned_total (slot_order bytes bounds) slots_total d

  -- slots of lines compare as the lines do
  pub compare_alike : (a b : Slot) → IsSlotOf bytes bounds a → IsSlotOf bytes bounds b → slot_order bytes bounds a b ≡ key_order (line_of bytes bounds a) (line_of bytes bounds b)
  compare_alike a b of_a of_b =
      let keys : Ordering = key_order (line_of bytes bounds a) (line_of bytes bounds b) in
      elim (nat_cmp a.front b.front) as (λ r. nat_cmp a.front b.front ≡ r → ordering_then r keys ≡ keys) [
        | Less ↦ λ e. sym (fronts_tell a.front b.front _ _ Less of_a.front of_b.front (sym e) (λ h. absurd (cc)))
        | Equal ↦ λ e. refl
        | Greater ↦ λ e. sym (fronts_tell a.front b.front _ _ Greater of_a.front of_b.front (sym e) (λ h. absurd (cc)))
      ]
      refl

  pub turned_alike : (d : Direction) (a b : Slot) → IsSlotOf bytes bounds a → IsSlotOf bytes bounds b
      → turned d (slot_order bytes bounds) a b ≡ turned d key_order (line_of bytes bounds a) (line_of bytes bounds b)
  turned_alike Ascending a b of_a of_b = compare_alike a b of_a of_b
  turned_alike Descending a b of_a of_b = compare_alike b a of_b of_a

-- ---- one line more

-- bytes after change no part of those before
part_more : (bytes more : List ℕ) (start end : ℕ) → end ≤ length bytes → slice_range (bytes ++ more) start end ≡ slice_range bytes start end
part_more bytes more start end within =
    ⊎_elim
    (λ (outside : length bytes < start).
    let none : end - start ≡ 0 = omega arith in
    ap (λ n. take n (drop start (bytes ++ more))) none ∙ sym (ap (λ n. take n (drop start bytes)) none))
    (λ (inside : start ≤ length bytes).
    ap (take (end - start)) (drop-append-le start bytes more inside)
    ∙ take-append-le (end - start) (drop start bytes) more (omega (arith, length-drop start bytes)))
    (cases_lt (length bytes) start)

between_more : (bytes more : List ℕ) (b : Bounds) → AreWithin bytes b → line_between (bytes ++ more) b ≡ line_between bytes b
between_more bytes more b within =
    ap (λ (part : List ℕ). record { line = part; text = slice_range (bytes ++ more) b.text_start b.key_start; key = slice_range (bytes ++ more) b.key_start b.key_end })
    (part_more bytes more b.line_start b.line_end within.line)
    ∙ ap (λ (part : List ℕ). record { line = slice_range bytes b.line_start b.line_end; text = part; key = slice_range (bytes ++ more) b.key_start b.key_end })
    (part_more bytes more b.text_start b.key_start within.text)
    ∙ ap (λ (part : List ℕ). record { line = slice_range bytes b.line_start b.line_end; text = slice_range bytes b.text_start b.key_start; key = part })
    (part_more bytes more b.key_start b.key_end within.key)

pub map_alike : {A B : Type 0} (f g : A → B) (xs : List A) → All (λ x. f x ≡ g x) xs → map f xs ≡ map g xs
map_alike f g [] h = refl
map_alike f g (x ∷ xs) h = ap (λ y. y ∷ map f xs) (All-head (λ y. f y ≡ g y) x xs h) ∙ ap (λ ys. g x ∷ ys) (map_alike f g xs (All-tail (λ y. f y ≡ g y) x xs h))

map-push : {A B : Type 0} (f : A → B) (xs : List A) (x : A) → map f (xs ++ x ∷ []) ≡ map f xs ++ f x ∷ []
map-push f [] x = refl
map-push f (y ∷ ys) x = ap (λ zs. f y ∷ zs) (map-push f ys x)

module _ (bytes more : List ℕ) (bounds : List Bounds) (slots : List Slot) (within : All (AreWithin bytes) bounds) (of : All (IsSlotOf bytes bounds) slots)
    (b : Bounds) (slot : Slot) (in' : AreWithin (bytes ++ more) b) (at : slot.index ≡ length bounds) (front : IsFrontOf slot.front (line_between (bytes ++ more) b).key) where
  abbrev all_bytes : List ℕ
  all_bytes = bytes ++ more

  abbrev all_bounds : List Bounds
  all_bounds = bounds ++ b ∷ []

  within_more : (c : Bounds) → AreWithin bytes c → AreWithin all_bytes c
  within_more c is = record {
    line = omega (arith, is.line, length-append bytes more);
    text = omega (arith, is.text, length-append bytes more);
    key = omega (arith, is.key, length-append bytes more);
  }

  line_stays : (s : Slot) → IsSlotOf bytes bounds s → line_of all_bytes all_bounds s ≡ line_of bytes bounds s
  line_stays s is =
      ap (line_between all_bytes) (get_or_append_left bounds (b ∷ []) no_bounds s.index is.within)
      ∙ between_more bytes more (get_or bounds s.index no_bounds) (within s.index no_bounds is.within)

  slot_stays : (s : Slot) → IsSlotOf bytes bounds s → IsSlotOf all_bytes all_bounds s
  slot_stays s is = record {
    within = omega (arith, is.within, length-append bounds (b ∷ []));
    front = subst (λ (line : KeyedLine). IsFrontOf s.front line.key) (sym (line_stays s is)) is.front;
  }

  new_line : line_of all_bytes all_bounds slot ≡ line_between all_bytes b
  new_line = ap (λ n. line_between all_bytes (get_or all_bounds n no_bounds)) at ∙ ap (line_between all_bytes) (get_or-append_seam bounds b [] no_bounds)

  pub bounds_more : All (AreWithin all_bytes) all_bounds
  bounds_more = All-push (AreWithin all_bytes) bounds b (All-weaker (AreWithin bytes) (AreWithin all_bytes) within_more bounds within) in'

  pub slots_more : All (IsSlotOf all_bytes all_bounds) (slots ++ slot ∷ [])
  slots_more =
      All-push (IsSlotOf all_bytes all_bounds) slots slot (All-weaker (IsSlotOf bytes bounds) (IsSlotOf all_bytes all_bounds) slot_stays slots of)
      (record {
        within = omega (arith, at, length-append bounds (b ∷ []));
        front = subst (λ (line : KeyedLine). IsFrontOf slot.front line.key) (sym new_line) front;
      })

  -- the lines are those before and the new one
  pub lines_more : map (line_of all_bytes all_bounds) (slots ++ slot ∷ []) ≡ map (line_of bytes bounds) slots ++ line_between all_bytes b ∷ []
  lines_more =
      map-push (line_of all_bytes all_bounds) slots slot
      ∙ ap (λ (lines : List KeyedLine). lines ++ line_of all_bytes all_bounds slot ∷ [])
      (map_alike (line_of all_bytes all_bounds) (line_of bytes bounds) slots (All-weaker (IsSlotOf bytes bounds) (λ s. line_of all_bytes all_bounds s ≡ line_of bytes bounds s) line_stays slots of))
      ∙ ap (λ (line : KeyedLine). map (line_of bytes bounds) slots ++ line ∷ []) new_line
