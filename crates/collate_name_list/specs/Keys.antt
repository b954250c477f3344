-- slots that change keys with others, and the order of which some have
use Rattle.std.specs.Prelude.{ℕ, Bool, not, List, [], ◌∷◌, ◌++◌, Option, Some, None, drop, filter, is_some, slice_index_or, take}
use Rattle.std.specs.Ordering.{nat_cmp, on, then_cmp}
use Rattle.std.specs.declared.cmp.Ordering.{Ordering}
use Rattle.collate_lists.specs.Names.{in_order}
use Rattle.collate_lists.specs.declared.windows.FrontedSlot.{FrontedSlot}
use Rattle.collate_name_list.specs.StoredNames.{key_order}
use Rattle.collate_name_list.specs.Slots.{entry_at, full_slots}
use Rattle.collate_name_list.specs.declared.slots.Stored.{Stored}

-- a slot with another key, if it is full and one is given; and the key that it had then
abbrev pub slot_with_key : Option Stored → Option (List ℕ) → Option Stored
slot_with_key None key = None
slot_with_key (Some s) None = Some s
slot_with_key (Some s) (Some key) = Some (record s { key = key })

abbrev pub key_before : Option Stored → Option (List ℕ) → Option (List ℕ)
key_before None key = key
key_before (Some s) None = None
key_before (Some s) (Some key) = Some s.key

-- the same for each slot
abbrev pub slots_with_keys : List (Option Stored) → List (Option (List ℕ)) → List (Option Stored)
slots_with_keys [] keys = []
slots_with_keys (slot ∷ slots) [] = slot ∷ slots
slots_with_keys (slot ∷ slots) (key ∷ keys) = slot_with_key slot key ∷ slots_with_keys slots keys

abbrev pub keys_before : List (Option Stored) → List (Option (List ℕ)) → List (Option (List ℕ))
keys_before [] keys = keys
keys_before (slot ∷ slots) [] = []
keys_before (slot ∷ slots) (key ∷ keys) = key_before slot key ∷ keys_before slots keys

-- a slot has the key that it had: none is among those that others had
abbrev pub has_kept : List (Option (List ℕ)) → ℕ → Bool
has_kept keys slot = not (is_some (slice_index_or keys slot None))

-- it is such a slot
abbrev pub is_at_kept : List (Option (List ℕ)) → FrontedSlot → Bool
is_at_kept keys placed = has_kept keys placed.slot

-- slots compare as their keys do, and those of one key as they arrived
abbrev pub key_and_slot : List (Option Stored) → ℕ → ℕ → Ordering
key_and_slot slots = then_cmp (on (entry_at slots) key_order) nat_cmp

-- the full slots but for those from one on that haven't the keys that they had
abbrev pub settled : List (Option Stored) → List (Option (List ℕ)) → ℕ → List ℕ
settled slots keys from = full_slots 0 (take from slots) ++ filter (has_kept keys) (full_slots from (drop from slots))

-- the same in order
abbrev pub settled_by_key : List (Option Stored) → List (Option (List ℕ)) → ℕ → List ℕ
settled_by_key slots keys from = in_order (key_and_slot slots) (settled slots keys from)
