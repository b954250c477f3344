-- how lines are kept: their bytes one after another, where the parts of each lie, and a slot a line, in order
use Rattle.std.specs.Prelude.{ℕ, ◌<◌, ◌≤◌, All, List, length, map, slice_index_or, slice_range}
use Rattle.std.specs.Cmp.Lexicographic.{slice_cmp}
use Rattle.std.specs.Ordering.{nat_cmp, on, then_cmp}
use Rattle.std.specs.declared.cmp.Ordering.{Ordering}
use Rattle.collate_lists.specs.Fronts.{IsFrontOf}
use Rattle.collate_keyed_lines.specs.KeyedLines.{KeyedLine}
use Rattle.collate_keyed_lines.specs.declared.slots.Bounds.{Bounds}
use Rattle.collate_keyed_lines.specs.declared.slots.Slot.{Slot}
use Rattle.collate_keyed_lines.specs.declared.lines.KeyedLines.TheInside.{Inside}

-- bounds of no bytes
abbrev pub no_bounds : Bounds
no_bounds = record { line_start = 0; line_end = 0; text_start = 0; key_start = 0; key_end = 0 }

-- the line between bounds, with what of it is compared, and its key
abbrev pub line_between : List ℕ → Bounds → KeyedLine
line_between bytes bounds =
    record {
      line = slice_range bytes bounds.line_start bounds.line_end;
      text = slice_range bytes bounds.text_start bounds.key_start;
      key = slice_range bytes bounds.key_start bounds.key_end;
    }

-- the line of an index
abbrev pub line_at : List ℕ → List Bounds → ℕ → KeyedLine
line_at bytes bounds index = line_between bytes (slice_index_or bounds index no_bounds)

-- the line of a slot
abbrev pub line_of : List ℕ → List Bounds → Slot → KeyedLine
line_of bytes bounds slot = line_at bytes bounds slot.index

-- how slots compare: by their fronts, and then by the keys
abbrev pub slot_order : List ℕ → List Bounds → Slot → Slot → Ordering
slot_order bytes bounds = then_cmp (on (λ (slot : Slot). slot.front) nat_cmp) (on (λ (slot : Slot). (line_of bytes bounds slot).key) (slice_cmp nat_cmp))

-- bounds within the bytes
pub record AreWithin (bytes : List ℕ) (bounds : Bounds) : Type 0 where
  pub line : bounds.line_end ≤ length bytes
  pub text : bounds.key_start ≤ length bytes
  pub key : bounds.key_end ≤ length bytes

-- a slot has the index of a line and the front of its key
pub record IsSlotOf (bytes : List ℕ) (bounds : List Bounds) (slot : Slot) : Type 0 where
  pub within : slot.index < length bounds
  pub front : IsFrontOf slot.front (line_of bytes bounds slot).key

-- the lines as they stand
abbrev pub lines_inside : Inside → List KeyedLine
lines_inside s = map (line_of s.bytes.items s.bounds.items) s.slots.items

pub record IsKept (s : Inside) : Type 0 where
  pub bounds : All (AreWithin s.bytes.items) s.bounds.items
  pub slots : All (IsSlotOf s.bytes.items s.bounds.items) s.slots.items
