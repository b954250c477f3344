-- lists in a row with the ranks at which they begin
use Rattle.std.specs.Prelude.{◌≡◌, ℕ, ◌+◌, ◌^◌, ◌<◌, ◌≤◌, List, [], length, slice_index, vec_capacity}
use Rattle.std.specs.Global.{Vec}
use Rattle.collate_lists.specs.Lists.{joined, lengths, rank_of, starts_of, AreRoomy}
use Rattle.collate_lists.specs.Starts.{AreBased, HasSpace, ranks_of}
use Rattle.collate_lists.specs.declared.list_rows.TheConstants.{FULL}
use Rattle.collate_lists.specs.declared.windows.FrontedSlot.{FrontedSlot}
use Rattle.collate_lists.specs.declared.parts.Parts.{Parts}

-- a list and the one after it have room in one
pub record AreJoinable (lists : List (Vec FrontedSlot)) (part : ℕ) : Type 0 where
  pub within : part + 1 < length lists
  pub few : slice_index (lengths lists) part + slice_index (lengths lists) (part + 1) ≤ FULL

-- the ranks and the count are those of the lists, each list has its memory, and the spare one is empty
pub record IsSound (parts : Parts) : Type 0 where
  pub starts : ranks_of parts.starts ≡ starts_of parts.lists.items
  pub based : AreBased parts.starts
  pub count : parts.count ≡ length (joined parts.lists.items)
  pub room : AreRoomy parts.lists.items
  pub spare : parts.spare.items ≡ []

-- one value more takes no memory: there is a spare list, and room for it and its rank
pub record HasRoom (parts : Parts) : Type 0 where
  pub spare : FULL ≤ vec_capacity parts.spare
  pub lists : length parts.lists.items < vec_capacity parts.lists
  pub starts : HasSpace parts.starts
  pub count : parts.count + 1 < 2 ^ 64

-- they hold the same
pub record IsSame (old new : Parts) : Type 0 where
  pub lists : new.lists.items ≡ old.lists.items
  pub starts : ranks_of new.starts ≡ ranks_of old.starts
  pub based : AreBased old.starts → AreBased new.starts
  pub spare : new.spare.items ≡ old.spare.items
  pub count : new.count ≡ old.count

-- a rank is that of an index in a list, which is one of its values or after the last
pub record IsIndexOf (lists : List (Vec FrontedSlot)) (rank part index : ℕ) : Type 0 where
  pub within : part < length lists
  pub upto : index ≤ slice_index (lengths lists) part
  pub ranked : rank_of lists part index ≡ rank

-- and that list isn't full
pub record IsFreeFor (lists : List (Vec FrontedSlot)) (rank part index : ℕ) : Type 0 where
  pub at : IsIndexOf lists rank part index
  pub space : slice_index (lengths lists) part < FULL
