-- the full slots in order: searched, with one more, and with one less
use Rattle.std.proofs.Common.{◌≡◌, ℕ, ◌+◌, ◌<◌, ◌≤◌, Bool, true, false, not, eqb, List, [], ◌∷◌, ◌++◌, length, map, get_or, set, slice_get, Option, Some, None, refl, sym, ap, ◌∙◌, subst, arith, Ordering, Less, Equal, Greater, nat_cmp}
use Rattle.std.specs.List.{All, Contains, HoldsAt, filter, insert, remove, sum_by}
use Rattle.std.specs.List.Sorted.{IsPartitionedBy, IsPermutation}
use Rattle.std.specs.Cmp.{IsTotalOrder}
use Rattle.std.specs.Cmp.Lexicographic.{slice_cmp}
use Rattle.std.specs.Ordering.{on, then_cmp, ordering_then}
use Rattle.std.proofs.lemmas.Bool.{not-true, eqb-false}
use Rattle.std.proofs.lemmas.Cmp.{on_total, then_total, nat_cmp_total, nat_list_cmp_total, ranked}
use Rattle.std.proofs.lemmas.List.{length-map}
use Rattle.std.proofs.lemmas.List.Elements.{All-weaker, All-contains, filter_passes}
use Rattle.std.proofs.lemmas.List.Sorted.{All-permutation, sum_by-IsPermutation}
use Rattle.std.specs.Option.{option_map}
use Rattle.std.proofs.lemmas.Option.{slice_get-get_or, slice_get_within, get_or_from_slice_get, slice_get-map}
use Rattle.collate_lists.specs.Names.{in_order}
use Rattle.collate_lists.specs.Search.{stands_before, IsRankOf}
use Rattle.collate_lists.proofs.NamesLemmas.{in_order_is_permutation, length-in_order}
use Rattle.collate_lists.proofs.NameSearchLemmas.{in_order_parted}
use Rattle.collate_lists.proofs.NameChangeLemmas.{in_order_map, in_order_alike, in_order_tied, in_order_filter}
use Rattle.collate_lists.proofs.NameRankLemmas.{in_order_append, in_order_found, rank_alike}
use Rattle.collate_name_list.specs.StoredNames.{StoredName, key_order, names_of, sorted}
use Rattle.collate_name_list.specs.Slots.{entry_of, entry_or_none, entry_at, IsFull, full_slots, entries, slots_by_key}
use Rattle.collate_name_list.specs.declared.slots.Stored.{Stored}
use Rattle.collate_name_list.proofs.NameListItemLemmas.{one_if, one_gone, parted_map}
use Rattle.collate_name_list.proofs.SlotLemmas.{IsSlot, full_are_slots, slot_from_contains, contains_full, full_once, full_less, full_push, full_emptied, entry_before, entry_pushed, entry_other}

pub key_total : IsTotalOrder key_order
key_total = on_total (λ (e : StoredName). e.key) nat_list_cmp_total

-- ---- by any order of names

-- the full slots in an order of what stands at them
abbrev pub slots_by : (StoredName → StoredName → Ordering) → List (Option Stored) → List ℕ
slots_by S slots = in_order (on (entry_at slots) S) (full_slots 0 slots)

module _ (S : StoredName → StoredName → Ordering) (slots : List (Option Stored)) where
  moved : IsPermutation (full_slots 0 slots) (slots_by S slots)
  moved = in_order_is_permutation (on (entry_at slots) S) (full_slots 0 slots)

  -- they give the names in order
  pub names_listed : map (entry_at slots) (slots_by S slots) ≡ in_order S (entries slots)
  names_listed = in_order_map (entry_at slots) (on (entry_at slots) S) S (λ x y. refl) (full_slots 0 slots)

  pub all_slots : All (IsSlot slots) (slots_by S slots)
  unfolding moved
  all_slots = All-permutation (IsSlot slots) (full_slots 0 slots) (slots_by S slots) moved (full_are_slots slots)

  pub all_full : All (IsFull slots) (slots_by S slots)
  all_full = All-weaker (IsSlot slots) (IsFull slots) (λ m h. h.full) (slots_by S slots) all_slots

  pub length_slots : length (slots_by S slots) ≡ length (entries slots)
  length_slots = length-in_order (on (entry_at slots) S) (full_slots 0 slots) ∙ sym (length-map (full_slots 0 slots) (entry_at slots))

  module _ (o : IsTotalOrder S) where
    slots_total : IsTotalOrder (on (entry_at slots) S)
    slots_total = on_total (entry_at slots) o

    -- those before a name, and those after it
    pub parted_slots : (past : Bool) (x : StoredName) → IsPartitionedBy (λ m. stands_before past (S (entry_at slots m) x)) (slots_by S slots)
    parted_slots past x =
        parted_map (entry_at slots) (λ e. stands_before past (S e x)) (slots_by S slots)
        (subst (λ es. IsPartitionedBy (λ e. stands_before past (S e x)) es) (sym names_listed) (in_order_parted S o past x (entries slots)))

    -- the same where slots decide between equal ones
    pub parted_by_slot : (past : Bool) (k : ℕ) → IsPartitionedBy (λ m. stands_before past (ordering_then (S (entry_at slots m) (entry_at slots k)) (nat_cmp m k))) (slots_by S slots)
    unfolding slots_total
    parted_by_slot past k =
        subst (λ ms. IsPartitionedBy (λ m. stands_before past (ordering_then (S (entry_at slots m) (entry_at slots k)) (nat_cmp m k))) ms)
        (sym (in_order_tied (on (entry_at slots) S) nat_cmp (full_slots 0 slots) (full_less slots)))
        (in_order_parted (then_cmp (on (entry_at slots) S) nat_cmp) (then_total slots_total nat_cmp_total) past k (full_slots 0 slots))

    -- one slot more, the newest
    module _ (s : Stored) (at : ℕ) where
      more : List (Option Stored)
      more = slots ++ Some s ∷ []

      more_alike : in_order (on (entry_at more) S) (full_slots 0 slots) ≡ slots_by S slots
      unfolding more
      more_alike =
          in_order_alike (on (entry_at more) S) (on (entry_at slots) S) (full_slots 0 slots) (λ x y hx hy.
          ap (λ e. S e (entry_at more y)) (entry_before slots s x (slot_from_contains slots x hx).within)
          ∙ ap (λ e. S (entry_at slots x) e) (entry_before slots s y (slot_from_contains slots y hy).within))

      rank_more : at ≤ length (slots_by S slots) → IsRankOf (λ m. S (entry_at slots m) (entry_of s)) true (slots_by S slots) at → IsRankOf (λ m. S (entry_at more m) (entry_at more (length slots))) true (slots_by S slots) at
      unfolding more
      rank_more l place =
          let same : All (λ m. S (entry_at slots m) (entry_of s) ≡ S (entry_at more m) (entry_at more (length slots))) (slots_by S slots) =
          All-weaker (IsSlot slots) (λ m. S (entry_at slots m) (entry_of s) ≡ S (entry_at more m) (entry_at more (length slots))) (λ m h.
          sym (ap (λ e. S e (entry_at more (length slots))) (entry_before slots s m h.within) ∙ ap (λ e. S (entry_at slots m) e) (entry_pushed slots s (length slots) refl))) (slots_by S slots) all_slots in
          rank_alike (λ m. S (entry_at slots m) (entry_of s)) (λ m. S (entry_at more m) (entry_at more (length slots))) true (slots_by S slots) at l same place

      pub slots_push : at ≤ length (slots_by S slots) → IsRankOf (λ m. S (entry_at slots m) (entry_of s)) true (slots_by S slots) at → insert (slots_by S slots) at (length slots) ≡ slots_by S (slots ++ Some s ∷ [])
      unfolding more
      slots_push l place =
          let zero_less : 0 + length slots ≡ length slots = omega arith in
          let R : ℕ → ℕ → Ordering = on (entry_at more) S in
          let here : IsRankOf (λ m. R m (length slots)) true (in_order R (full_slots 0 slots)) at =
          subst (λ ms. IsRankOf (λ m. S (entry_at more m) (entry_at more (length slots))) true ms at) (sym more_alike) (rank_more l place) in
          sym (ap (in_order R) (full_push 0 slots s)
          ∙ ap (λ m. in_order R (full_slots 0 slots ++ m ∷ [])) zero_less
          ∙ in_order_append R (on_total (entry_at more) o) (full_slots 0 slots) (length slots) at here
          ∙ ap (λ ms. insert ms at (length slots)) more_alike)

    -- one slot less
    module _ (k at : ℕ) (full : IsFull slots k) (here : slice_get (slots_by S slots) at ≡ Some k) where
      less : List (Option Stored)
      less = set slots k None

      stays : (x : ℕ) → Contains (filter (λ m. not (eqb m k)) (full_slots 0 slots)) x → entry_at less x ≡ entry_at slots x
      unfolding less
      stays x h =
          let kept : not (eqb x k) ≡ true = All-contains (λ m. not (eqb m k) ≡ true) (filter (λ m. not (eqb m k)) (full_slots 0 slots)) x (filter_passes (λ m. not (eqb m k)) (full_slots 0 slots)) h in
          entry_other slots k x (eqb-false x k (not-true (eqb x k) kept))

      pub slots_remove : remove (slots_by S slots) at ≡ slots_by S (set slots k None)
      unfolding less slots_total moved
      slots_remove =
          let places : List ℕ = full_slots 0 slots in
          let once : sum_by (one_if k) (slots_by S slots) ≡ 1 = sum_by-IsPermutation (one_if k) places (slots_by S slots) moved ∙ full_once slots k full in
          sym (ap (in_order (on (entry_at less) S)) (full_emptied slots k)
          ∙ in_order_alike (on (entry_at less) S) (on (entry_at slots) S) (filter (λ m. not (eqb m k)) places) (λ x y hx hy.
          ap (λ e. S e (entry_at less y)) (stays x hx) ∙ ap (λ e. S (entry_at slots x) e) (stays y hy))
          ∙ in_order_filter (on (entry_at slots) S) slots_total (λ m. not (eqb m k)) places
          ∙ one_gone k (slots_by S slots) at (slice_get_within (slots_by S slots) at k here) (get_or_from_slice_get (slots_by S slots) at k k here) once)

-- ---- a slot that is looked for

pub then_last : (r t : Ordering) → ordering_then r t ≡ Equal → t ≡ Equal
then_last Less t h = cc
then_last Equal t h = h
then_last Greater t h = cc

-- by its key and itself
pub slot_found : (slots : List (Option Stored)) (k at : ℕ) → IsFull slots k → IsRankOf (λ m. ordering_then (slice_cmp nat_cmp (entry_at slots m).key (entry_at slots k).key) (nat_cmp m k)) false (slots_by_key slots) at → slice_get (slots_by_key slots) at ≡ Some k
slot_found slots k at full place =
    let R : ℕ → ℕ → Ordering = on (entry_at slots) key_order in
    let tied : in_order R (full_slots 0 slots) ≡ in_order (then_cmp R nat_cmp) (full_slots 0 slots) = in_order_tied R nat_cmp (full_slots 0 slots) (full_less slots) in
    let there : IsRankOf (λ m. then_cmp R nat_cmp m k) false (in_order (then_cmp R nat_cmp) (full_slots 0 slots)) at =
    subst (λ ms. IsRankOf (λ m. ordering_then (slice_cmp nat_cmp (entry_at slots m).key (entry_at slots k).key) (nat_cmp m k)) false ms at) tied place in
    let found : (at < length (full_slots 0 slots)) × HoldsAt (λ y. y ≡ k) (in_order (then_cmp R nat_cmp) (full_slots 0 slots)) at =
    in_order_found (then_cmp R nat_cmp) (then_total (on_total (entry_at slots) key_total) nat_cmp_total) (full_slots 0 slots) k at there (contains_full slots k full)
    (λ y h e. ranked y k Equal (sym (then_last (R y k) (nat_cmp y k) e))) in
    let within : at < length (slots_by_key slots) = omega (arith, found.0, length-in_order R (full_slots 0 slots)) in
    slice_get-get_or (slots_by_key slots) at k within ∙ ap (λ m. Some m) (ap (λ ms. get_or ms at k) tied ∙ found.1 k)

-- ---- the same over lists that are these orders

-- a place of an order holds a full slot
pub full_at : (S : StoredName → StoredName → Ordering) (slots : List (Option Stored)) (places : List ℕ) (at m : ℕ) → places ≡ slots_by S slots → slice_get places at ≡ Some m → IsFull slots m
full_at S slots places at m e h =
    let each : All (IsFull slots) places = subst (All (IsFull slots)) (sym e) (all_full S slots) in
    subst (IsFull slots) (get_or_from_slice_get places at m 0 h) (each at 0 (slice_get_within places at m h))

-- what a slot that is read holds
pub entry_read : (slots : List (Option Stored)) (m : ℕ) (s : Stored) → get_or slots m None ≡ Some s → entry_at slots m ≡ entry_of s
entry_read slots m s e = ap entry_or_none e

pub parted_for_slot : (slots : List (Option Stored)) (by_key : List ℕ) (k : ℕ) (key : List ℕ) (past : Bool) → by_key ≡ slots_by_key slots → key ≡ (entry_at slots k).key → IsPartitionedBy (λ m. stands_before past (ordering_then (slice_cmp nat_cmp (entry_at slots m).key key) (nat_cmp m k))) by_key
parted_for_slot slots by_key k key past e f =
    subst (λ x. IsPartitionedBy (λ m. stands_before past (ordering_then (slice_cmp nat_cmp (entry_at slots m).key x) (nat_cmp m k))) by_key) (sym f)
    (subst (λ ms. IsPartitionedBy (λ m. stands_before past (ordering_then (slice_cmp nat_cmp (entry_at slots m).key (entry_at slots k).key) (nat_cmp m k))) ms) (sym e)
    (parted_by_slot key_order slots key_total past k))

pub slot_at_rank : (slots : List (Option Stored)) (by_key : List ℕ) (k : ℕ) (key : List ℕ) (at : ℕ) → by_key ≡ slots_by_key slots → key ≡ (entry_at slots k).key → IsFull slots k → IsRankOf (λ m. ordering_then (slice_cmp nat_cmp (entry_at slots m).key key) (nat_cmp m k)) false by_key at → slice_get by_key at ≡ Some k
slot_at_rank slots by_key k key at e f full place =
    let same_key : IsRankOf (λ m. ordering_then (slice_cmp nat_cmp (entry_at slots m).key (entry_at slots k).key) (nat_cmp m k)) false by_key at =
    subst (λ x. IsRankOf (λ m. ordering_then (slice_cmp nat_cmp (entry_at slots m).key x) (nat_cmp m k)) false by_key at) f place in
    ap (λ ms. slice_get ms at) e
    ∙ slot_found slots k at full (subst (λ ms. IsRankOf (λ m. ordering_then (slice_cmp nat_cmp (entry_at slots m).key (entry_at slots k).key) (nat_cmp m k)) false ms at) e same_key)

-- the name at a place of the order of keys
pub name_listed : (slots : List (Option Stored)) (by_key : List ℕ) (place : ℕ) → by_key ≡ slots_by_key slots → slice_get (names_of (sorted (entries slots))) place ≡ option_map (λ (e : StoredName). e.name) (option_map (entry_at slots) (slice_get by_key place))
name_listed slots by_key place e =
    ap (λ es. slice_get (names_of es) place) (sym (names_listed key_order slots))
    ∙ slice_get-map (λ (e : StoredName). e.name) (map (entry_at slots) (slots_by_key slots)) place
    ∙ ap (λ o. option_map (λ (e : StoredName). e.name) o) (slice_get-map (entry_at slots) (slots_by_key slots) place)
    ∙ ap (λ ms. option_map (λ (e : StoredName). e.name) (option_map (entry_at slots) (slice_get ms place))) (sym e)
