-- slots that change keys with others, and what stays then
use Rattle.std.proofs.Common.{◌≡◌, ℕ, zero, suc, ◌+◌, ◌<◌, ◌≤◌, List, [], ◌∷◌, length, get_or, set, Option, Some, None, is_some, ◌⊎◌, inl, inr, ⊎_elim, refl, sym, ap, ◌∙◌, subst, arith}
use Rattle.std.specs.List.{filter}
use Rattle.std.specs.Prelude.{Result, Ok, Err, OnErr, OnOk}
use Rattle.std.proofs.lemmas.Bool.{cases_eq}
use Rattle.std.proofs.lemmas.List.{same_lists, get_or_default, get_or-set_same, get_or-set_other, length-set}
use Rattle.collate_name_list.specs.StoredNames.{rekeyed}
use Rattle.collate_name_list.specs.Keys.{key_before, keys_before, slot_with_key, slots_with_keys}
use Rattle.collate_name_list.specs.Slots.{AreFronted, HaveOwnNames, IsFull, IsKept, entry_at, entry_of, entry_or_none, hash_in, hashes_in, names_in, slots_of, slots_by_key}
use Rattle.collate_name_list.specs.declared.slots.Stored.{Stored}
use Rattle.collate_name_list.specs.declared.name_list.NameList.TheInside.{Inside}
use Rattle.collate_name_list.proofs.KeptLemmas.{reseeded}

-- ---- changed keys, slot by slot

pub length-changed : (slots : List (Option Stored)) (keys : List (Option (List ℕ))) → length (slots_with_keys slots keys) ≡ length slots
length-changed [] keys = refl
length-changed (slot ∷ slots) [] = refl
length-changed (slot ∷ slots) (key ∷ keys) = omega (arith, length-changed slots keys)

pub length-before : (slots : List (Option Stored)) (keys : List (Option (List ℕ))) → length slots ≡ length keys → length (keys_before slots keys) ≡ length keys
length-before [] keys h = refl
length-before (slot ∷ slots) [] h = refl
length-before (slot ∷ slots) (key ∷ keys) h = omega (arith, length-before slots keys (omega arith))

pub changed_at : (slots : List (Option Stored)) (keys : List (Option (List ℕ))) (k : ℕ) → get_or (slots_with_keys slots keys) k None ≡ slot_with_key (get_or slots k None) (get_or keys k None)
changed_at [] keys k = refl
changed_at (None ∷ slots) [] zero = refl
changed_at (Some s ∷ slots) [] zero = refl
changed_at (slot ∷ slots) [] (suc k) = kept_at (get_or slots k None)
  where
    kept_at : (slot : Option Stored) → slot ≡ slot_with_key slot None
    kept_at None = refl
    kept_at (Some s) = refl
changed_at (slot ∷ slots) (key ∷ keys) zero = refl
changed_at (slot ∷ slots) (key ∷ keys) (suc k) = changed_at slots keys k

before_at : (slots : List (Option Stored)) (keys : List (Option (List ℕ))) (k : ℕ) → k < length slots → length slots ≡ length keys → get_or (keys_before slots keys) k None ≡ key_before (get_or slots k None) (get_or keys k None)
before_at [] keys k h l = absurd (omega arith)
before_at (slot ∷ slots) [] k h l = absurd (omega arith)
before_at (slot ∷ slots) (key ∷ keys) zero h l = refl
before_at (slot ∷ slots) (key ∷ keys) (suc k) h l = before_at slots keys k (omega arith) (omega arith)

-- the slots before this one have changed keys, and the others have not
pub record AreChangedTo (place : ℕ) (slots new : List (Option Stored)) (keys left : List (Option (List ℕ))) : Type 0 where
  pub slot_count : length new ≡ length slots
  pub key_count : length left ≡ length keys
  pub slot_done : (k : ℕ) → k < place → get_or new k None ≡ slot_with_key (get_or slots k None) (get_or keys k None)
  pub slot_left : (k : ℕ) → place ≤ k → get_or new k None ≡ get_or slots k None
  pub key_done : (k : ℕ) → k < place → get_or left k None ≡ key_before (get_or slots k None) (get_or keys k None)
  pub key_left : (k : ℕ) → place ≤ k → get_or left k None ≡ get_or keys k None

module _ (slots new : List (Option Stored)) (keys left : List (Option (List ℕ))) (place : ℕ) (changed : AreChangedTo place slots new keys left) (within : place < length slots) (long : length slots ≡ length keys)
    (slot : Option Stored) (key : Option (List ℕ)) (slot_is : slot ≡ slot_with_key (get_or new place None) (get_or left place None)) (key_is : key ≡ key_before (get_or new place None) (get_or left place None)) where
  slot_here : get_or (set new place slot) place None ≡ slot_with_key (get_or slots place None) (get_or keys place None)
  slot_here =
      get_or-set_same new place slot None (omega (arith, changed.slot_count)) ∙ slot_is
      ∙ ap (λ s. slot_with_key s (get_or left place None)) (changed.slot_left place (omega arith))
      ∙ ap (λ k. slot_with_key (get_or slots place None) k) (changed.key_left place (omega arith))

  key_here : get_or (set left place key) place None ≡ key_before (get_or slots place None) (get_or keys place None)
  key_here =
      get_or-set_same left place key None (omega (arith, changed.key_count, long)) ∙ key_is
      ∙ ap (λ s. key_before s (get_or left place None)) (changed.slot_left place (omega arith))
      ∙ ap (λ k. key_before (get_or slots place None) k) (changed.key_left place (omega arith))

  other : (k : ℕ) → (k < place) ⊎ (place < k) → k ≡ place → ⊥
  other k (inl l) e = omega (arith, e)
  other k (inr l) e = omega (arith, e)

  at_or_before : (k : ℕ) → k < place + 1 → (k ≡ place → ⊥) → k < place
  at_or_before k l n = omega (arith, λ (e : k ≡ place). n e)

  pub changed_more : AreChangedTo (place + 1) slots (set new place slot) keys (set left place key)
  changed_more = record {
    slot_count = length-set new place slot ∙ changed.slot_count;
    key_count = length-set left place key ∙ changed.key_count;
    slot_done = λ k l.
        ⊎_elim (λ (e : k ≡ place). subst (λ m. get_or (set new place slot) m None ≡ slot_with_key (get_or slots m None) (get_or keys m None)) (sym e) slot_here)
        (λ (n : k ≡ place → ⊥). get_or-set_other new place k slot None n ∙ changed.slot_done k (at_or_before k l n)) (cases_eq k place);
    slot_left = λ k l. get_or-set_other new place k slot None (other k (inr (omega arith))) ∙ changed.slot_left k (omega arith);
    key_done = λ k l.
        ⊎_elim (λ (e : k ≡ place). subst (λ m. get_or (set left place key) m None ≡ key_before (get_or slots m None) (get_or keys m None)) (sym e) key_here)
        (λ (n : k ≡ place → ⊥). get_or-set_other left place k key None n ∙ changed.key_done k (at_or_before k l n)) (cases_eq k place);
    key_left = λ k l. get_or-set_other left place k key None (other k (inr (omega arith))) ∙ changed.key_left k (omega arith);
  }

module _ (slots new : List (Option Stored)) (keys left : List (Option (List ℕ))) (place : ℕ) (changed : AreChangedTo place slots new keys left) (all : length slots ≤ place) (long : length slots ≡ length keys) where
  pub all_changed : new ≡ slots_with_keys slots keys
  all_changed =
      same_lists new (slots_with_keys slots keys) (changed.slot_count ∙ sym (length-changed slots keys)) (λ k d l.
      get_or_default new k d None l
      ∙ changed.slot_done k (omega (arith, changed.slot_count))
      ∙ sym (changed_at slots keys k)
      ∙ get_or_default (slots_with_keys slots keys) k None d (omega (arith, changed.slot_count, length-changed slots keys)))

  pub all_before : left ≡ keys_before slots keys
  all_before =
      same_lists left (keys_before slots keys) (changed.key_count ∙ sym (length-before slots keys long)) (λ k d l.
      get_or_default left k d None l
      ∙ changed.key_done k (omega (arith, changed.key_count, long))
      ∙ sym (before_at slots keys k (omega (arith, changed.key_count, long)) long)
      ∙ get_or_default (keys_before slots keys) k None d (omega (arith, changed.key_count, length-before slots keys long)))

-- changed twice, they are as before
back_one : (slot : Option Stored) (key : Option (List ℕ)) → slot_with_key (slot_with_key slot key) (key_before slot key) ≡ slot
back_one None key = refl
back_one (Some s) None = refl
back_one (Some s) (Some key) = refl

pub changed_back : (slots : List (Option Stored)) (keys : List (Option (List ℕ))) → slots_with_keys (slots_with_keys slots keys) (keys_before slots keys) ≡ slots
changed_back [] keys = refl
changed_back (slot ∷ slots) [] = refl
changed_back (slot ∷ slots) (key ∷ keys) =
    ap (λ s. s ∷ slots_with_keys (slots_with_keys slots keys) (keys_before slots keys)) (back_one slot key) ∙ ap (λ ss. slot ∷ ss) (changed_back slots keys)

-- ---- what stays, and what doesn't

hash_stays : (seed : ℕ) (slot : Option Stored) (key : Option (List ℕ)) → hash_in seed (slot_with_key slot key) ≡ hash_in seed slot
hash_stays seed None key = refl
hash_stays seed (Some s) None = refl
hash_stays seed (Some s) (Some key) = refl

pub hashes_stay : (seed : ℕ) (slots : List (Option Stored)) (keys : List (Option (List ℕ))) → hashes_in seed (slots_with_keys slots keys) ≡ hashes_in seed slots
hashes_stay seed [] keys = refl
hashes_stay seed (slot ∷ slots) [] = refl
hashes_stay seed (slot ∷ slots) (key ∷ keys) =
    ap (λ h. h ∷ hashes_in seed (slots_with_keys slots keys)) (hash_stays seed slot key) ∙ ap (λ hs. hash_in seed slot ∷ hs) (hashes_stay seed slots keys)

full_stays : (slot : Option Stored) (key : Option (List ℕ)) → is_some (slot_with_key slot key) ≡ is_some slot
full_stays None key = refl
full_stays (Some s) None = refl
full_stays (Some s) (Some key) = refl

name_stays : (slot : Option Stored) (key : Option (List ℕ)) → (entry_or_none (slot_with_key slot key)).name ≡ (entry_or_none slot).name
name_stays None key = refl
name_stays (Some s) None = refl
name_stays (Some s) (Some key) = refl

pub own_stays : (slots : List (Option Stored)) (keys : List (Option (List ℕ))) → HaveOwnNames slots → HaveOwnNames (slots_with_keys slots keys)
own_stays slots keys own a b full_a full_b same =
    let full : (k : ℕ) → IsFull (slots_with_keys slots keys) k → IsFull slots k =
    λ k h. sym (full_stays (get_or slots k None) (get_or keys k None)) ∙ sym (ap is_some (changed_at slots keys k)) ∙ h in
    let name : (k : ℕ) → (entry_at (slots_with_keys slots keys) k).name ≡ (entry_at slots k).name =
    λ k. ap (λ (s : Option Stored). (entry_or_none s).name) (changed_at slots keys k) ∙ name_stays (get_or slots k None) (get_or keys k None) in
    own a b (full a full_a) (full b full_b) (sym (name a) ∙ same ∙ name b)

pub names_changed : (slots : List (Option Stored)) (keys : List (Option (List ℕ))) → names_in (slots_with_keys (filter is_some slots) keys) ≡ rekeyed keys (names_in slots)
names_changed [] [] = refl
names_changed [] (key ∷ keys) = refl
names_changed (None ∷ slots) keys = names_changed slots keys
names_changed (Some s ∷ slots) [] = ap (λ ns. entry_of s ∷ ns) (unchanged slots)
  where
    unchanged : (slots : List (Option Stored)) → names_in (filter is_some slots) ≡ names_in slots
    unchanged [] = refl
    unchanged (None ∷ slots) = unchanged slots
    unchanged (Some s ∷ slots) = ap (λ ns. entry_of s ∷ ns) (unchanged slots)
names_changed (Some s ∷ slots) (None ∷ keys) = ap (λ ns. entry_of s ∷ ns) (names_changed slots keys)
names_changed (Some s ∷ slots) (Some key ∷ keys) = ap (λ ns. record { key = key; name = s.bytes.items } ∷ ns) (names_changed slots keys)

pub length_full : (slots : List (Option Stored)) → length (filter is_some slots) ≡ length (names_in slots)
length_full [] = refl
length_full (None ∷ slots) = length_full slots
length_full (Some s ∷ slots) = omega (arith, length_full slots)

-- ---- what calls leave

-- what a call that is done leaves
pub ok_then : {X E : Type 0} {P Q : Type 0} (r : Result X E) → OnOk r P → (P → Q) → OnOk r Q
ok_then (Ok x) h f = f h
ok_then (Err e) h f = tt

pub on_err_from : {X E : Type 0} {P : Type 0} (r : Result X E) → P → OnErr r P
on_err_from (Ok x) h = tt
on_err_from (Err e) h = h

-- ---- what a list of names keeps

pub kept_changed : (s t : Inside) (slots : List (Option Stored)) (keys : List (Option (List ℕ))) → IsKept s → s.slots.items ≡ slots → t.slots.items ≡ slots_with_keys slots keys → slots_of t.by_key ≡ slots_by_key t.slots.items
    → AreFronted t.slots.items t.by_key → t.hashes.hashes ≡ s.hashes.hashes → t.hashes.seed ≡ s.hashes.seed → IsKept t
kept_changed s t slots keys kept from changed order fronts hashes seeds = record {
  by_key = order;
  fronts = fronts;
  hashes =
      hashes ∙ kept.hashes ∙ ap (hashes_in s.hashes.seed) from ∙ sym (hashes_stay s.hashes.seed slots keys) ∙ sym (ap (hashes_in s.hashes.seed) changed)
      ∙ reseeded t s seeds;
  distinct = subst HaveOwnNames (sym changed) (own_stays slots keys (subst HaveOwnNames from kept.distinct));
}
