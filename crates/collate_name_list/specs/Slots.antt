-- how a list of names is kept: its names in slots, as they arrived, some of the slots emptied; the full slots in order of their keys; and the hashes of the names
use Rattle.std.specs.Borrow.{Bor}
use Rattle.std.specs.List.{AllWithin}
use Rattle.std.specs.Prelude.{All, ◌≡◌, ℕ, Bool, true, false, ◌+◌, ◌≤◌, List, [], ◌∷◌, length, map, slice_index_or, Option, Some, None, IsSome}
use Rattle.std.specs.Cmp.Lexicographic.{slice_cmp}
use Rattle.std.specs.Ordering.{nat_cmp, on, ordering_then}
use Rattle.std.specs.declared.cmp.Ordering.{Ordering}
use Rattle.collate_lists.specs.Names.{in_order}
use Rattle.collate_lists.specs.Search.{stands_before}
use Rattle.collate_lists.specs.Hashes.{hash_of}
use Rattle.collate_lists.specs.Fronts.{IsFrontOf}
use Rattle.collate_lists.specs.declared.windows.FrontedSlot.{FrontedSlot}
use Rattle.collate_name_list.specs.StoredNames.{StoredName, key_order}
use Rattle.collate_name_list.specs.declared.slots.Stored.{Stored}
use Rattle.collate_name_list.specs.declared.slots.Sought.{Sought}
use Rattle.collate_name_list.specs.declared.slots.Sought.TheVariants.{Key, Slot}
use Rattle.collate_name_list.specs.declared.name_list.NameList.TheInside.{Inside}

-- what a slot holds
abbrev pub entry_of : Stored → StoredName
entry_of s = record { key = s.key; name = s.bytes.items }

-- an empty slot as one with no bytes
abbrev pub entry_or_none : Option Stored → StoredName
entry_or_none None = record { key = []; name = [] }
entry_or_none (Some s) = entry_of s

-- what stands at a slot
abbrev pub entry_at : List (Option Stored) → ℕ → StoredName
entry_at slots slot = entry_or_none (slice_index_or slots slot None)

-- a slot has a name
abbrev pub IsFull : List (Option Stored) → ℕ → Type 0
IsFull slots slot = IsSome (slice_index_or slots slot None)

-- the slots that have names, the first of all counted as from
abbrev pub full_slots : ℕ → List (Option Stored) → List ℕ
full_slots from [] = []
full_slots from (None ∷ slots) = full_slots (from + 1) slots
full_slots from (Some s ∷ slots) = from ∷ full_slots (from + 1) slots

-- the names in slots, as they arrived
abbrev pub entries : List (Option Stored) → List StoredName
entries slots = map (entry_at slots) (full_slots 0 slots)

-- the same by recursion over the slots
abbrev pub names_in : List (Option Stored) → List StoredName
names_in [] = []
names_in (None ∷ slots) = names_in slots
names_in (Some s ∷ slots) = entry_of s ∷ names_in slots

-- a name and its key that are lent
abbrev pub lent_name : Bor (List ℕ) × Bor (List ℕ) → StoredName
lent_name lent = record { key = lent.1.now; name = lent.0.now }

-- the full slots in order of their keys
abbrev pub slots_by_key : List (Option Stored) → List ℕ
slots_by_key slots = in_order (on (entry_at slots) key_order) (full_slots 0 slots)

-- the hash of a slot's name under a seed, 0 if it is empty
abbrev pub hash_in : ℕ → Option Stored → ℕ
hash_in seed None = 0
hash_in seed (Some s) = hash_of seed s.bytes.items

abbrev pub hashes_in : ℕ → List (Option Stored) → List ℕ
hashes_in seed slots = map (hash_in seed) slots

-- how what stands at a slot compares with what is looked for
abbrev pub compared : List (Option Stored) → Sought → ℕ → Ordering
compared slots (Key key) slot = slice_cmp nat_cmp (entry_at slots slot).key key.now
compared slots (Slot key other) slot = ordering_then (slice_cmp nat_cmp (entry_at slots slot).key key.now) (nat_cmp slot other)

-- no two slots have one name
abbrev pub HaveOwnNames : List (Option Stored) → Type 0
HaveOwnNames slots = (a b : ℕ) → IsFull slots a → IsFull slots b → (entry_at slots a).name ≡ (entry_at slots b).name → a ≡ b

-- the list of names that its parts stand for
abbrev pub names_inside : Inside → List StoredName
names_inside s = entries s.slots.items

-- slots without their fronts
abbrev pub slots_of : List FrontedSlot → List ℕ
slots_of placed = map (λ p. p.slot) placed

-- each slot has the front of the key of what stands there
abbrev pub AreFronted : List (Option Stored) → List FrontedSlot → Type 0
AreFronted slots placed = All (λ p. IsFrontOf p.front (entry_at slots p.slot).key) placed

-- the key that is looked for
abbrev pub sought_key : Sought → List ℕ
sought_key (Key key) = key.now
sought_key (Slot key other) = key.now

-- the order is that of the full slots, with the fronts of their keys, the hashes are those of the names, and no two slots have one name
pub record IsKept (s : Inside) : Type 0 where
  pub by_key : slots_of s.by_key ≡ slots_by_key s.slots.items
  pub fronts : AreFronted s.slots.items s.by_key
  pub hashes : s.hashes.hashes ≡ hashes_in s.hashes.seed s.slots.items
  pub distinct : HaveOwnNames s.slots.items

-- the rank that is looked for is one of these: all before them stand before it, and none after them
pub record IsSpan {A : Type 0} (compared : A → Ordering) (past : Bool) (xs : List A) (low high : ℕ) : Type 0 where
  pub ordered : low ≤ high
  pub bound : high ≤ length xs
  pub front : AllWithin (λ other. stands_before past (compared other) ≡ true) xs 0 low
  pub back : AllWithin (λ other. stands_before past (compared other) ≡ false) xs high (length xs)
