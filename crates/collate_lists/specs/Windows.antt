-- a part of a list of slots that is lent
use Rattle.std.specs.Prelude.{◌≡◌, ℕ, ◌+◌, List, Some, slice_get}
use Rattle.collate_lists.specs.declared.windows.FrontedSlot.{FrontedSlot}

-- what stands in the part stands in the list from this rank on
abbrev pub shows : List FrontedSlot → ℕ → List FrontedSlot → Type 0
shows places start part = (k : ℕ) (placed : FrontedSlot) → slice_get part k ≡ Some placed → slice_get places (start + k) ≡ Some placed
