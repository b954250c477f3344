-- hashes in chains: for each bucket the last slot whose hash is in it, and for each slot the last before it in its bucket
use Rattle.std.specs.Prelude.{◌≡◌, ℕ, ◌-◌, ◌%◌, ◌<◌, ◌≤◌, List, length, map, min, slice_index, vec_capacity}
use Rattle.std.specs.Global.{Vec}
use Rattle.collate_lists.specs.declared.chains.Link.{Link}

-- the hashes at the slots, 0 where there is none, and the slots before them
abbrev pub hashes_of : List Link → List ℕ
hashes_of links = map (λ link. link.hash) links

abbrev pub befores_of : List Link → List ℕ
befores_of links = map (λ link. link.before) links

-- a hash stands there, and is in a bucket of so many
abbrev pub IsIn : ℕ → ℕ → ℕ → Type 0
IsIn buckets bucket hash = (0 < hash) × (hash % buckets ≡ bucket)

-- the last slot before an end whose hash is in a bucket, counted from 1; 0 if there is none
pub record IsLast (hashes : List ℕ) (buckets bucket end last : ℕ) : Type 0 where
  pub upto : last ≤ end
  pub there : 0 < last → IsIn buckets bucket (slice_index hashes (last - 1))
  pub none : (slot : ℕ) → last ≤ slot → slot < end → IsIn buckets bucket (slice_index hashes slot) → ⊥

-- the slots before an end are in the chains of their hashes
pub record IsLinkedTo (heads : List ℕ) (links : List Link) (end : ℕ) : Type 0 where
  pub lasts : (bucket : ℕ) → bucket < length heads → IsLast (hashes_of links) (length heads) bucket end (slice_index heads bucket)
  pub befores : (slot : ℕ) → slot < end → 0 < slice_index (hashes_of links) slot → IsLast (hashes_of links) (length heads) (slice_index (hashes_of links) slot % length heads) slot (slice_index (befores_of links) slot)

-- all slots are, and there are as many buckets as slots
pub record IsLinked (heads : List ℕ) (links : List Link) : Type 0 where
  pub all : IsLinkedTo heads links (length links)
  pub room : length links ≤ length heads

-- for how many slots more there is room: memory for their links, and buckets
abbrev pub room_in : Vec ℕ → Vec Link → ℕ
room_in heads links = min (vec_capacity links) (length heads.items) - length links.items
