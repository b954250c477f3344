-- lists in a row that are seen as one
use Rattle.std.specs.Prelude.{ℕ, ◌+◌, ◌-◌, ◌≤◌, List, [], ◌∷◌, ◌++◌, All, drop, flat_map, length, map, slice_index, take, vec_capacity}
use Rattle.std.specs.Global.{Vec}
use Rattle.collate_lists.specs.declared.list_rows.TheConstants.{FULL}
use Rattle.collate_lists.specs.declared.windows.FrontedSlot.{FrontedSlot}

-- the values of all lists, one after another
abbrev pub joined : List (Vec FrontedSlot) → List FrontedSlot
joined lists = flat_map (λ list. list.items) lists

-- how many values each list holds
abbrev pub lengths : List (Vec FrontedSlot) → List ℕ
lengths lists = map (λ list. length list.items) lists

-- the rank, in all, of a place in one of them
abbrev pub rank_of : List (Vec FrontedSlot) → ℕ → ℕ → ℕ
rank_of lists part place = length (joined (take part lists)) + place

-- the rank at which each list begins, the first of them at this one
abbrev pub starts_from : ℕ → List (Vec FrontedSlot) → List ℕ
starts_from rank [] = []
starts_from rank (list ∷ lists) = rank ∷ starts_from (rank + length list.items) lists

abbrev pub starts_of : List (Vec FrontedSlot) → List ℕ
starts_of lists = starts_from 0 lists

-- ranks, from an index on each one more
abbrev pub raised : ℕ → List ℕ → List ℕ
raised index starts = take index starts ++ map (λ start. start + 1) (drop index starts)

-- ranks, from an index on each one less
abbrev pub lowered : ℕ → List ℕ → List ℕ
lowered index starts = take index starts ++ map (λ start. start - 1) (drop index starts)

-- no list holds more than a full one, and each has memory for a full one
abbrev pub AreRoomy : List (Vec FrontedSlot) → Type 0
AreRoomy lists = All (λ list. (length list.items ≤ FULL) × (FULL ≤ vec_capacity list)) lists

-- a place, and each of a list, with the number that stands at it in its stead
abbrev pub numbered : List ℕ → FrontedSlot → FrontedSlot
numbered numbers value = record value { slot = slice_index numbers value.slot }

abbrev pub renumbered : List ℕ → List FrontedSlot → List FrontedSlot
renumbered numbers values = map (numbered numbers) values
