-- the empty slots dropped: the full ones with their new numbers stand for the same names, in the same orders
use Rattle.std.proofs.Common.{◌≡◌, ℕ, ◌+◌, ◌<◌, List, [], ◌∷◌, ◌++◌, length, map, get_or, Option, Some, None, true, cond, lt-ltb, is_some, refl, sym, ap, ◌∙◌, subst, arith, append_assoc, Ordering}
use Rattle.std.specs.List.{All, Contains, filter}
use Rattle.std.specs.Ordering.{on}
use Rattle.std.proofs.lemmas.List.{length-map, get_or-map, get_or_at, length_push}
use Rattle.std.proofs.lemmas.List.Elements.{All-map, All-weaker, Contains-get_or}
use Rattle.collate_lists.specs.Names.{in_order}
use Rattle.collate_lists.proofs.NameChangeLemmas.{in_order_map, in_order_alike}
use Rattle.collate_lists.specs.Hashes.{hash_of, is_hash}
use Rattle.collate_lists.specs.Fronts.{IsFrontOf}
use Rattle.collate_lists.specs.Lists.{renumbered, numbered as numbered_placed}
use Rattle.collate_lists.specs.declared.windows.FrontedSlot.{FrontedSlot}
use Rattle.collate_name_list.specs.StoredNames.{StoredName, key_order}
use Rattle.collate_name_list.specs.Slots.{AreFronted, IsFull, slots_of, entry_of, entry_or_none, entry_at, full_slots, entries, names_in, hashes_in, slots_by_key, HaveOwnNames, IsKept}
use Rattle.collate_name_list.specs.Room.{numbers_from}
use Rattle.collate_name_list.specs.declared.slots.Stored.{Stored}
use Rattle.collate_name_list.specs.declared.name_list.NameList.TheInside.{Inside}
use Rattle.collate_name_list.proofs.SlotLemmas.{IsSlot, contains_full, slot_from_contains}
use Rattle.collate_name_list.proofs.SlotRankLemmas.{slots_by, all_slots, all_full}
use Rattle.collate_name_list.proofs.FrontedLemmas.{all_fronted}
use Rattle.collate_name_list.proofs.KeptLemmas.{reseeded}

-- ---- maps

map_map : {A B C : Type 0} (f : B → C) (g : A → B) (xs : List A) → map f (map g xs) ≡ map (λ x. f (g x)) xs
map_map f g [] = refl
map_map f g (x ∷ xs) = ap (λ ys. f (g x) ∷ ys) (map_map f g xs)

-- two functions that give one list are alike on its elements
alike_within : {A B : Type 0} (f g : A → B) (xs : List A) → map f xs ≡ map g xs → (x : A) → Contains xs x → f x ≡ g x
alike_within f g xs same x h =
    sym (ap f h.2) ∙ sym (get_or-map f xs h.0 x (f x) h.1) ∙ ap (λ ys. get_or ys h.0 (f x)) same ∙ get_or-map g xs h.0 x (f x) h.1 ∙ ap g h.2

-- what a map contains comes from an element
from_map : (f : ℕ → ℕ) (xs : List ℕ) (y : ℕ) → Contains (map f xs) y → (x : ℕ) × Contains xs x × (f x ≡ y)
from_map f xs y h =
    let within : h.0 < length xs = omega (arith, h.1, length-map xs f) in
    (get_or xs h.0 0, Contains-get_or xs h.0 0 within, sym (get_or-map f xs h.0 0 y within) ∙ h.2)

-- ---- the new numbers

pub length_numbers : (number : ℕ) (slots : List (Option Stored)) → length (numbers_from number slots) ≡ length slots
length_numbers number [] = refl
length_numbers number (None ∷ slots) = omega (arith, length_numbers number slots)
length_numbers number (Some s ∷ slots) = omega (arith, length_numbers (number + 1) slots)

numbered : (before : List ℕ) (number from : ℕ) (slots : List (Option Stored)) (all : List ℕ) → all ≡ before ++ numbers_from number slots → length before ≡ from → map (λ m. get_or all m 0) (full_slots from slots) ≡ full_slots number (filter is_some slots)
numbered before number from [] all e l = refl
numbered before number from (None ∷ slots) all e l =
    let long : length (before ++ number ∷ []) ≡ from + 1 = omega (arith, length_push before number) in
    numbered (before ++ number ∷ []) number (from + 1) slots all (e ∙ sym (append_assoc before (number ∷ []) (numbers_from number slots))) long
numbered before number from (Some s ∷ slots) all e l =
    let long : length (before ++ number ∷ []) ≡ from + 1 = omega (arith, length_push before number) in
    let here : get_or all from 0 ≡ number = ap (λ ms. get_or ms from 0) e ∙ get_or_at before number (numbers_from (number + 1) slots) 0 from l in
    ap (λ m. m ∷ map (λ m. get_or all m 0) (full_slots (from + 1) slots)) here
    ∙ ap (λ ms. number ∷ ms) (numbered (before ++ number ∷ []) (number + 1) (from + 1) slots all (e ∙ sym (append_assoc before (number ∷ []) (numbers_from (number + 1) slots))) long)

abbrev number_of : List (Option Stored) → ℕ → ℕ
number_of slots m = get_or (numbers_from 0 slots) m 0

abbrev dense : List (Option Stored) → List (Option Stored)
dense slots = filter is_some slots

numbers_are : (slots : List (Option Stored)) → map (number_of slots) (full_slots 0 slots) ≡ full_slots 0 (dense slots)
numbers_are slots = numbered [] 0 0 slots (numbers_from 0 slots) refl refl

-- ---- the same names

named_from : (before : List (Option Stored)) (from : ℕ) (slots all : List (Option Stored)) → all ≡ before ++ slots → length before ≡ from → map (entry_at all) (full_slots from slots) ≡ names_in slots
named_from before from [] all e l = refl
named_from before from (None ∷ slots) all e l =
    let long : length (before ++ None ∷ []) ≡ from + 1 = omega (arith, length_push before None) in
    named_from (before ++ None ∷ []) (from + 1) slots all (e ∙ sym (append_assoc before (None ∷ []) slots)) long
named_from before from (Some s ∷ slots) all e l =
    let long : length (before ++ Some s ∷ []) ≡ from + 1 = omega (arith, length_push before (Some s)) in
    let here : entry_at all from ≡ entry_of s = ap entry_or_none (ap (λ ss. get_or ss from None) e ∙ get_or_at before (Some s) slots None from l) in
    ap (λ n. n ∷ map (entry_at all) (full_slots (from + 1) slots)) here
    ∙ ap (λ ns. entry_of s ∷ ns) (named_from (before ++ Some s ∷ []) (from + 1) slots all (e ∙ sym (append_assoc before (Some s ∷ []) slots)) long)

-- the names in slots, both ways
pub entries_are : (slots : List (Option Stored)) → names_in slots ≡ entries slots
entries_are slots = sym (named_from [] 0 slots slots refl refl)

names_stay : (slots : List (Option Stored)) → names_in (dense slots) ≡ names_in slots
names_stay [] = refl
names_stay (None ∷ slots) = names_stay slots
names_stay (Some s ∷ slots) = ap (λ ns. entry_of s ∷ ns) (names_stay slots)

pub entries_dense : (slots : List (Option Stored)) → entries (filter is_some slots) ≡ entries slots
entries_dense slots = named_from [] 0 (dense slots) (dense slots) refl refl ∙ names_stay slots ∙ sym (named_from [] 0 slots slots refl refl)

module _ (slots : List (Option Stored)) where
  entry_stays : (m : ℕ) → Contains (full_slots 0 slots) m → entry_at (dense slots) (number_of slots m) ≡ entry_at slots m
  entry_stays =
      alike_within (λ m. entry_at (dense slots) (number_of slots m)) (entry_at slots) (full_slots 0 slots)
      (sym (map_map (entry_at (dense slots)) (number_of slots) (full_slots 0 slots)) ∙ ap (map (entry_at (dense slots))) (numbers_are slots) ∙ entries_dense slots)

  -- ---- the same orders

  orders_dense : (S : StoredName → StoredName → Ordering) → map (number_of slots) (slots_by S slots) ≡ slots_by S (dense slots)
  orders_dense S =
      let new : ℕ → ℕ → Ordering = on (entry_at (dense slots)) S in
      ap (map (number_of slots)) (in_order_alike (on (entry_at slots) S) (on (number_of slots) new) (full_slots 0 slots) (λ x y hx hy.
      sym (ap (λ e. S e (entry_at (dense slots) (number_of slots y))) (entry_stays x hx) ∙ ap (λ e. S (entry_at slots x) e) (entry_stays y hy))))
      ∙ in_order_map (number_of slots) (on (number_of slots) new) new (λ x y. refl) (full_slots 0 slots)
      ∙ ap (in_order new) (numbers_are slots)

  own_dense : HaveOwnNames slots → HaveOwnNames (dense slots)
  own_dense own a b full_a full_b same =
      let from_a : (x : ℕ) × Contains (full_slots 0 slots) x × (number_of slots x ≡ a) =
      from_map (number_of slots) (full_slots 0 slots) a (subst (λ ms. Contains ms a) (sym (numbers_are slots)) (contains_full (dense slots) a full_a)) in
      let from_b : (x : ℕ) × Contains (full_slots 0 slots) x × (number_of slots x ≡ b) =
      from_map (number_of slots) (full_slots 0 slots) b (subst (λ ms. Contains ms b) (sym (numbers_are slots)) (contains_full (dense slots) b full_b)) in
      let name_a : (entry_at (dense slots) a).name ≡ (entry_at slots from_a.0).name = ap (λ m. (entry_at (dense slots) m).name) (sym from_a.2) ∙ ap (λ (e : StoredName). e.name) (entry_stays from_a.0 from_a.1) in
      let name_b : (entry_at (dense slots) b).name ≡ (entry_at slots from_b.0).name = ap (λ m. (entry_at (dense slots) m).name) (sym from_b.2) ∙ ap (λ (e : StoredName). e.name) (entry_stays from_b.0 from_b.1) in
      let one : from_a.0 ≡ from_b.0 = own from_a.0 from_b.0 (slot_from_contains slots from_a.0 from_a.1).full (slot_from_contains slots from_b.0 from_b.1).full (sym name_a ∙ same ∙ name_b) in
      sym from_a.2 ∙ ap (number_of slots) one ∙ from_b.2

-- each place has a number
pub numbers_within : (S : StoredName → StoredName → Ordering) (slots : List (Option Stored)) (ps : List FrontedSlot) (numbers : List ℕ) → slots_of ps ≡ slots_by S slots → numbers ≡ numbers_from 0 slots → All (λ p. p.slot < length numbers) ps
numbers_within S slots ps numbers e n =
    let long : length numbers ≡ length slots = ap length n ∙ length_numbers 0 slots in
    all_fronted (λ m. m < length numbers) ps
    (subst (All (λ m. m < length numbers)) (sym e)
    (All-weaker (IsSlot slots) (λ m. m < length numbers) (λ m h. omega (arith, h.within, long)) (slots_by S slots) (all_slots S slots)))

-- slots with new numbers
slots_renumbered : (numbers : List ℕ) (ps : List FrontedSlot) → slots_of (renumbered numbers ps) ≡ map (λ m. get_or numbers m 0) (slots_of ps)
slots_renumbered numbers ps = map_map (λ (p : FrontedSlot). p.slot) (numbered_placed numbers) ps ∙ sym (map_map (λ m. get_or numbers m 0) (λ (p : FrontedSlot). p.slot) ps)

fronts_dense : (slots : List (Option Stored)) (ps : List FrontedSlot) → slots_of ps ≡ slots_by_key slots → AreFronted slots ps → AreFronted (dense slots) (renumbered (numbers_from 0 slots) ps)
fronts_dense slots ps e fronts =
    let full : All (λ p. IsFull slots p.slot) ps = all_fronted (IsFull slots) ps (subst (All (IsFull slots)) (sym e) (all_full key_order slots)) in
    All-map (λ p. IsFrontOf p.front (entry_at (dense slots) p.slot).key) (numbered_placed (numbers_from 0 slots)) ps
    (λ i d l. let p : FrontedSlot = get_or ps i d in subst (λ (n : StoredName). IsFrontOf p.front n.key) (sym (entry_stays slots p.slot (contains_full slots p.slot (full i d l)))) (fronts i d l))

hash_above : (seed : ℕ) (bytes : List ℕ) → is_hash (hash_of seed bytes) ≡ true
hash_above seed bytes = lt-ltb 0 (hash_of seed bytes) (omega arith)

-- the hashes of the full slots
hashes_dense : (seed : ℕ) (slots : List (Option Stored)) → hashes_in seed (dense slots) ≡ filter is_hash (hashes_in seed slots)
hashes_dense seed [] = refl
hashes_dense seed (None ∷ slots) = hashes_dense seed slots
hashes_dense seed (Some s ∷ slots) =
    let hash : ℕ = hash_of seed s.bytes.items in
    ap (λ hs. hash ∷ hs) (hashes_dense seed slots)
    ∙ sym (ap (λ b. cond b (hash ∷ filter is_hash (hashes_in seed slots)) (filter is_hash (hashes_in seed slots))) (hash_above seed s.bytes.items))

pub kept_dense : (s t : Inside) (numbers : List ℕ) → IsKept s → numbers ≡ numbers_from 0 s.slots.items → t.slots.items ≡ filter is_some s.slots.items → t.by_key ≡ renumbered numbers s.by_key → t.hashes.hashes ≡ filter is_hash s.hashes.hashes → t.hashes.seed ≡ s.hashes.seed → IsKept t
kept_dense s t numbers kept n e k h seeds =
    let slots : List (Option Stored) = s.slots.items in
    let keys : t.by_key ≡ renumbered (numbers_from 0 slots) s.by_key = k ∙ ap (λ ns. renumbered ns s.by_key) n in
    record {
      by_key =
          ap slots_of keys ∙ slots_renumbered (numbers_from 0 slots) s.by_key ∙ ap (map (number_of slots)) kept.by_key
          ∙ orders_dense slots key_order ∙ sym (ap slots_by_key e);
      fronts =
          subst (λ (ss : List (Option Stored)). AreFronted ss t.by_key) (sym e)
          (subst (AreFronted (dense slots)) (sym keys) (fronts_dense slots s.by_key kept.by_key kept.fronts));
      hashes =
          h ∙ ap (filter is_hash) kept.hashes ∙ sym (hashes_dense s.hashes.seed slots) ∙ sym (ap (hashes_in s.hashes.seed) e)
          ∙ reseeded t s seeds;
      distinct = subst HaveOwnNames (sym e) (own_dense slots kept.distinct);
    }
