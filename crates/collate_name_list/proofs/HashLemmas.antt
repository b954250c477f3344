-- the hashes of slots: what one tells of its slot, and a name looked for by its hash
use Rattle.std.proofs.Common.{◌≡◌, ℕ, zero, suc, ◌+◌, ◌<◌, ◌≤◌, true, List, [], ◌∷◌, get_or, length, Option, Some, None, IfNone, IfSome, is_some, refl, sym, ap, ◌∙◌, arith, true≢false, ⊎_elim}
use Rattle.std.specs.List.{Contains}
use Rattle.std.proofs.lemmas.Bool.{cases_lt, cases_eq}
use Rattle.collate_lists.specs.Hashes.{hash_of}
use Rattle.collate_name_list.specs.StoredNames.{names_of}
use Rattle.collate_name_list.specs.Slots.{entry_at, entry_or_none, IsFull, entries, hash_in, hashes_in}
use Rattle.collate_name_list.specs.declared.slots.Stored.{Stored}
use Rattle.collate_name_list.proofs.NameListEntryLemmas.{slot_there}

hash_at : (seed : ℕ) (slots : List (Option Stored)) (slot : ℕ) → get_or (hashes_in seed slots) slot 0 ≡ hash_in seed (get_or slots slot None)
hash_at seed [] slot = refl
hash_at seed (s ∷ slots) zero = refl
hash_at seed (s ∷ slots) (suc slot) = hash_at seed slots slot

hash_of_some : (seed : ℕ) (slot : Option Stored) → is_some slot ≡ true → hash_in seed slot ≡ hash_of seed (entry_or_none slot).name
hash_of_some seed None h = absurd (true≢false (sym h))
hash_of_some seed (Some s) h = refl

-- a full slot has the hash of its name
hash_of_full : (seed : ℕ) (slots : List (Option Stored)) (slot : ℕ) → IsFull slots slot → get_or (hashes_in seed slots) slot 0 ≡ hash_of seed (entry_at slots slot).name
hash_of_full seed slots slot h = hash_at seed slots slot ∙ hash_of_some seed (get_or slots slot None) h

-- a slot with a hash has a name
full_of_hash : (seed : ℕ) (slot : Option Stored) → 0 < hash_in seed slot → is_some slot ≡ true
full_of_hash seed None h = absurd (omega arith)
full_of_hash seed (Some s) h = refl

pub hash_full : (seed : ℕ) (slots : List (Option Stored)) (slot hash : ℕ) → 0 < hash → get_or (hashes_in seed slots) slot 0 ≡ hash → IsFull slots slot
hash_full seed slots slot hash positive is =
    let here : hash_in seed (get_or slots slot None) ≡ hash = sym (hash_at seed slots slot) ∙ is in
    full_of_hash seed (get_or slots slot None) (omega (arith, here))

-- ---- the slots of a hash, looked at from the last one on

-- the next one to look at has the hash, and none after it has the name
pub record IsSearched (seed : ℕ) (slots : List (Option Stored)) (name : List ℕ) (hash : ℕ) (found : Option ℕ) : Type 0 where
  pub within : IfSome found (λ slot. slot < length slots)
  pub there : IfSome found (λ slot. get_or (hashes_in seed slots) slot 0 ≡ hash)
  pub behind : IfSome found (λ slot. (k : ℕ) → slot < k → IsFull slots k → (entry_at slots k).name ≡ name → ⊥)
  pub none : IfNone found (Contains (names_of (entries slots)) name → ⊥)

-- how many are left to look at, at most
abbrev pub left_of : Option ℕ → ℕ
left_of None = 0
left_of (Some slot) = slot + 1

module _ (seed : ℕ) (slots : List (Option Stored)) (name : List ℕ) (hash end : ℕ) (is : hash ≡ hash_of seed name) (absent : (slot : ℕ) → end ≤ slot → IsFull slots slot → (entry_at slots slot).name ≡ name → ⊥) (upto : end ≤ length slots) where
  hash_there : (slot : ℕ) → IsFull slots slot → (entry_at slots slot).name ≡ name → get_or (hashes_in seed slots) slot 0 ≡ hash
  hash_there slot full named = hash_of_full seed slots slot full ∙ ap (hash_of seed) named ∙ sym is

  absent_behind : (last : ℕ) → ((later : ℕ) → last < later → later < end → get_or (hashes_in seed slots) later 0 ≡ hash → ⊥) → (k : ℕ) → last < k → IsFull slots k → (entry_at slots k).name ≡ name → ⊥
  absent_behind last later k l full named =
      ⊎_elim (λ (h : k < end). later k l h (hash_there k full named)) (λ (h : end ≤ k). absent k h full named) (cases_lt k end)

  absent_all : ((slot : ℕ) → slot < end → get_or (hashes_in seed slots) slot 0 ≡ hash → ⊥) → Contains (names_of (entries slots)) name → ⊥
  absent_all none h =
      let there : (m : ℕ) × IsFull slots m × ((entry_at slots m).name ≡ name) = slot_there slots name h in
      ⊎_elim (λ (l : there.0 < end). none there.0 l (hash_there there.0 there.1 there.2)) (λ (l : end ≤ there.0). absent there.0 l there.1 there.2) (cases_lt there.0 end)

  -- the last one before an end, from which on none has the name
  pub searched : (found : Option ℕ) → IfSome found (λ slot. slot < end) → IfSome found (λ slot. get_or (hashes_in seed slots) slot 0 ≡ hash)
      → IfSome found (λ slot. (later : ℕ) → slot < later → later < end → get_or (hashes_in seed slots) later 0 ≡ hash → ⊥)
      → IfNone found ((slot : ℕ) → slot < end → get_or (hashes_in seed slots) slot 0 ≡ hash → ⊥) → IsSearched seed slots name hash found
  searched None before there last none = record { within = tt; there = tt; behind = tt; none = absent_all none }
  searched (Some slot) before there last none = record { within = omega arith; there = there; behind = absent_behind slot last; none = tt }

pub fewer_left : (found : Option ℕ) (slot : ℕ) → IfSome found (λ other. other < slot) → left_of found < slot + 1
fewer_left None slot h = omega arith
fewer_left (Some other) slot h = omega arith

-- the slots from one on haven't the name, if that one hasn't
pub absent_from : (slots : List (Option Stored)) (name : List ℕ) (slot : ℕ) → ((k : ℕ) → slot < k → IsFull slots k → (entry_at slots k).name ≡ name → ⊥) → ((entry_at slots slot).name ≡ name → ⊥) → (k : ℕ) → slot ≤ k → IsFull slots k → (entry_at slots k).name ≡ name → ⊥
absent_from slots name slot behind here k l full named =
    ⊎_elim (λ (e : k ≡ slot). here (ap (λ n. (entry_at slots n).name) (sym e) ∙ named)) (λ (n : k ≡ slot → ⊥). behind k (omega (arith, λ (e : k ≡ slot). n e)) full named) (cases_eq k slot)
