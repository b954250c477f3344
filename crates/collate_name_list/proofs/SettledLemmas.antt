-- the order of slots of which some changed keys: those that didn't stand as they stood, and the others are put among them
use Rattle.std.proofs.Common.{◌≡◌, ℕ, zero, suc, ◌+◌, ◌<◌, ◌≤◌, true, false, cond, not, List, [], ◌∷◌, ◌++◌, length, get_or, take, drop, Option, Some, None, is_some, refl, sym, ap, ◌∙◌, subst, arith, append_assoc, length-take, take_all, append-nil, Ordering, Less, Equal, Greater, nat_cmp, ◌≢◌}
use Rattle.std.specs.List.{All, AllPairs, Contains, filter, insert}
use Rattle.std.specs.List.Sorted.{IsPartitionedBy}
use Rattle.std.specs.Cmp.{IsTotalOrder}
use Rattle.std.specs.Cmp.Lexicographic.{slice_cmp}
use Rattle.std.specs.Ordering.{on, ordering_then}
use Rattle.std.proofs.lemmas.Cmp.{on_total, then_total, nat_cmp_total, ranked}
use Rattle.std.proofs.lemmas.List.{drop_all, drop_more, take_more}
use Rattle.std.proofs.lemmas.List.Elements.{All-append, All-cons, All-contains, All-filter, All-head, All-nil, All-tail, All-weaker, filter_passes}
use Rattle.std.proofs.lemmas.List.Sorted.{All-permutation}
use Rattle.collate_lists.specs.Names.{in_order, is_greater, placed_before}
use Rattle.collate_lists.specs.Search.{IsRankOf, stands_before}
use Rattle.collate_lists.proofs.NamesLemmas.{after_before, in_order_is_permutation, in_order_more, placed_after, turned}
use Rattle.collate_lists.proofs.NameChangeLemmas.{in_order_alike, in_order_filter, in_order_tied}
use Rattle.collate_lists.proofs.NameRankLemmas.{in_order_append}
use Rattle.collate_lists.proofs.NameSearchLemmas.{in_order_parted}
use Rattle.collate_lists.specs.Fronts.{IsFrontOf}
use Rattle.collate_lists.specs.declared.windows.FrontedSlot.{FrontedSlot}
use Rattle.collate_lists.proofs.Rows.{All-insert}
use Rattle.collate_name_list.specs.StoredNames.{StoredName, key_order}
use Rattle.collate_name_list.specs.Keys.{has_kept, is_at_kept, key_and_slot, settled, settled_by_key, slot_with_key, slots_with_keys}
use Rattle.collate_name_list.specs.Slots.{AreFronted, IsFull, entry_at, entry_or_none, full_slots, slots_of, slots_by_key}
use Rattle.collate_name_list.specs.declared.slots.Stored.{Stored}
use Rattle.collate_name_list.proofs.SlotLemmas.{IsSlot, full_are_slots, full_less, full_push, full_rises}
use Rattle.collate_name_list.proofs.SlotRankLemmas.{key_total, then_last}
use Rattle.collate_name_list.proofs.RekeyLemmas.{changed_at}

-- ---- an element that arrived between others

module _ {A : Type 0} (T : A → A → Ordering) (o : IsTotalOrder T) where
  -- one that equals none of these is put before the same of them from either side
  either_side : (x : A) (ys : List A) → All (λ y. T x y ≢ Equal) ys → placed_before T x ys ≡ placed_after T x ys
  unfolding placed_before
  either_side x [] h = refl
  either_side x (y ∷ ys) h = by (T x y) refl (either_side x ys (All-tail (λ z. T x z ≢ Equal) y ys h))
    where
      by : (r : Ordering) → T x y ≡ r → placed_before T x ys ≡ placed_after T x ys
          → cond (is_greater (T x y)) (y ∷ placed_before T x ys) (x ∷ y ∷ ys) ≡ cond (is_greater (T y x)) (x ∷ y ∷ ys) (y ∷ placed_after T x ys)
      by Less e later =
          ap (λ s. cond (is_greater s) (y ∷ placed_before T x ys) (x ∷ y ∷ ys)) e
          ∙ sym (ap (λ s. cond (is_greater s) (x ∷ y ∷ ys) (y ∷ placed_after T x ys)) (turned T o y x Less e))
      by Equal e later = absurd (All-head (λ z. T x z ≢ Equal) y ys h e)
      by Greater e later =
          ap (λ s. cond (is_greater s) (y ∷ placed_before T x ys) (x ∷ y ∷ ys)) e
          ∙ ap (λ zs. y ∷ zs) later
          ∙ sym (ap (λ s. cond (is_greater s) (x ∷ y ∷ ys) (y ∷ placed_after T x ys)) (turned T o y x Greater e))

  in_order_between : (x : A) (front back : List A) → All (λ y. T x y ≢ Equal) back → in_order T (front ++ x ∷ back) ≡ placed_after T x (in_order T (front ++ back))
  unfolding in_order
  in_order_between x [] back h = either_side x (in_order T back) (All-permutation (λ y. T x y ≢ Equal) back (in_order T back) (in_order_is_permutation T back) h)
  in_order_between x (a ∷ front) back h = ap (placed_before T a) (in_order_between x front back h) ∙ after_before T o a x (in_order T (front ++ back))

  -- an element that equals none that arrived later is put at its place among the others
  pub in_order_put : (x : A) (front back : List A) (at : ℕ) → All (λ y. T x y ≢ Equal) back → IsRankOf (λ y. T y x) true (in_order T (front ++ back)) at
      → in_order T (front ++ x ∷ back) ≡ insert (in_order T (front ++ back)) at x
  in_order_put x front back at h place = in_order_between x front back h ∙ sym (in_order_more T o (front ++ back) x) ∙ in_order_append T o (front ++ back) x at place

-- ---- by keys and slots

slots_total : (slots : List (Option Stored)) → IsTotalOrder (key_and_slot slots)
slots_total slots = then_total (on_total (entry_at slots) key_total) nat_cmp_total

tied_by_slot : (slots : List (Option Stored)) → slots_by_key slots ≡ in_order (key_and_slot slots) (full_slots 0 slots)
tied_by_slot slots = in_order_tied (on (entry_at slots) key_order) nat_cmp (full_slots 0 slots) (full_less slots)

-- only a slot itself equals it
itself_alone : (slots : List (Option Stored)) (x y : ℕ) → key_and_slot slots x y ≡ Equal → x ≡ y
itself_alone slots x y e = ranked x y Equal (sym (then_last (on (entry_at slots) key_order x y) (nat_cmp x y) e))

-- ---- full slots before a place, and from it on

full_split : (from place upto : ℕ) (slots : List (Option Stored)) → upto ≡ from + place → full_slots from slots ≡ full_slots from (take place slots) ++ full_slots upto (drop place slots)
full_split from zero upto slots e = let same : from ≡ upto = omega (arith, e) in ap (λ m. full_slots m slots) same
full_split from (suc place) upto [] e = refl
full_split from (suc place) upto (None ∷ slots) e = full_split (from + 1) place upto slots (omega (arith, e))
full_split from (suc place) upto (Some s ∷ slots) e = ap (λ ms. from ∷ ms) (full_split (from + 1) place upto slots (omega (arith, e)))

-- an empty slot more
full_none : (from : ℕ) (slots : List (Option Stored)) → full_slots from (slots ++ None ∷ []) ≡ full_slots from slots
full_none from [] = refl
full_none from (None ∷ slots) = full_none (from + 1) slots
full_none from (Some s ∷ slots) = ap (λ ms. from ∷ ms) (full_none (from + 1) slots)

all_parts : (P : ℕ → Type 0) (xs ys : List ℕ) → All P (xs ++ ys) → All P xs × All P ys
all_parts P [] ys h = (All-nil P, h)
all_parts P (x ∷ xs) ys h =
    let later = all_parts P xs ys (All-tail P x (xs ++ ys) h) in
    (All-cons P x xs (All-head P x (xs ++ ys) h) later.0, later.1)

module _ (slots : List (Option Stored)) (keys : List (Option (List ℕ))) where
  all_settled : (P : ℕ → Type 0) (place : ℕ) → All P (full_slots 0 slots) → All P (settled slots keys place)
  all_settled P place each =
      let before : List ℕ = full_slots 0 (take place slots) in
      let behind : List ℕ = full_slots place (drop place slots) in
      let parts : All P before × All P behind = all_parts P before behind (subst (All P) (full_split 0 place place slots (omega arith)) each) in
      All-append P before (filter (has_kept keys) behind) parts.0 (All-filter (has_kept keys) P behind parts.1)

  pub all_in_order : (P : ℕ → Type 0) (place : ℕ) → All P (full_slots 0 slots) → All P (settled_by_key slots keys place)
  all_in_order P place each =
      All-permutation P (settled slots keys place) (settled_by_key slots keys place) (in_order_is_permutation (key_and_slot slots) (settled slots keys place)) (all_settled P place each)

  pub settled_full : (place : ℕ) → All (IsFull slots) (settled_by_key slots keys place)
  settled_full place = all_in_order (IsFull slots) place (All-weaker (IsSlot slots) (IsFull slots) (λ m h. h.full) (full_slots 0 slots) (full_are_slots slots))

  pub settled_parted : (place k : ℕ) (key : List ℕ) → key ≡ (entry_at slots k).key
      → IsPartitionedBy (λ m. stands_before true (ordering_then (slice_cmp nat_cmp (entry_at slots m).key key) (nat_cmp m k))) (settled_by_key slots keys place)
  settled_parted place k key e =
      subst (λ x. IsPartitionedBy (λ m. stands_before true (ordering_then (slice_cmp nat_cmp (entry_at slots m).key x) (nat_cmp m k))) (settled_by_key slots keys place)) (sym e)
      (in_order_parted (key_and_slot slots) (slots_total slots) true k (settled slots keys place))

  -- ---- one place more

  module _ (place : ℕ) (within : place < length slots) where
    before : List ℕ
    before = full_slots 0 (take place slots)

    later : List ℕ
    later = filter (has_kept keys) (full_slots (place + 1) (drop (place + 1) slots))

    here : (slot : Option Stored) → get_or slots place None ≡ slot → settled slots keys place ≡ before ++ filter (has_kept keys) (full_slots place (slot ∷ drop (place + 1) slots))
    unfolding before
    here slot is = ap (λ ss. full_slots 0 (take place slots) ++ filter (has_kept keys) (full_slots place ss)) (drop_more slots place None within ∙ ap (λ s. s ∷ drop (place + 1) slots) is)

    next : (slot : Option Stored) → get_or slots place None ≡ slot → settled slots keys (place + 1) ≡ full_slots 0 (take place slots ++ slot ∷ []) ++ later
    unfolding later
    next slot is = ap (λ ss. full_slots 0 ss ++ later) (take_more slots place None within ∙ ap (λ s. take place slots ++ s ∷ []) is)

    -- an empty slot
    settled_none : get_or slots place None ≡ None → settled slots keys (place + 1) ≡ settled slots keys place
    unfolding before later
    settled_none is = next None is ∙ ap (λ ms. ms ++ later) (full_none 0 (take place slots)) ∙ sym (here None is)

    -- a full one
    more : (s : Stored) → get_or slots place None ≡ Some s → settled slots keys (place + 1) ≡ before ++ place ∷ later
    unfolding before later
    more s is =
        let newest : 0 + length (take place slots) ≡ place = omega (arith, length-take place slots, within) in
        next (Some s) is
        ∙ ap (λ ms. ms ++ later) (full_push 0 (take place slots) s ∙ ap (λ m. before ++ m ∷ []) newest)
        ∙ append_assoc before (place ∷ []) later

    -- which has the key that it had
    settled_kept : (s : Stored) → get_or slots place None ≡ Some s → has_kept keys place ≡ true → settled slots keys (place + 1) ≡ settled slots keys place
    unfolding before later
    settled_kept s is kept = more s is ∙ sym (here (Some s) is ∙ ap (λ b. before ++ cond b (place ∷ later) later) kept)

    -- or hasn't
    left_out : (s : Stored) → get_or slots place None ≡ Some s → has_kept keys place ≡ false → settled slots keys place ≡ before ++ later
    unfolding before later
    left_out s is other = here (Some s) is ∙ ap (λ b. before ++ cond b (place ∷ later) later) other

    apart : (s : Stored) → get_or slots place None ≡ Some s → All (λ y. key_and_slot slots place y ≢ Equal) later
    unfolding later
    apart s is =
        let rest : List (Option Stored) = drop (place + 1) slots in
        let rises : AllPairs (λ x y. x < y) (place ∷ full_slots (place + 1) rest) = full_rises place (Some s ∷ rest) in
        let above : All (λ y. place < y) (full_slots (place + 1) rest) = λ k d l. rises 0 (suc k) d (omega arith) (omega arith) in
        All-filter (has_kept keys) (λ y. key_and_slot slots place y ≢ Equal) (full_slots (place + 1) rest)
        (All-weaker (λ y. place < y) (λ y. key_and_slot slots place y ≢ Equal)
        (λ y l e. let same : place ≡ y = itself_alone slots place y e in absurd (omega arith)) (full_slots (place + 1) rest) above)

    pub settled_put : (s : Stored) (at : ℕ) → get_or slots place None ≡ Some s → has_kept keys place ≡ false
        → IsRankOf (λ m. ordering_then (slice_cmp nat_cmp (entry_at slots m).key s.key) (nat_cmp m place)) true (settled_by_key slots keys place) at
        → settled_by_key slots keys (place + 1) ≡ insert (settled_by_key slots keys place) at place
    settled_put s at is other found =
        let T : ℕ → ℕ → Ordering = key_and_slot slots in
        let out : settled slots keys place ≡ before ++ later = left_out s is other in
        let key : s.key ≡ (entry_at slots place).key = sym (ap (λ (o : Option Stored). (entry_or_none o).key) is) in
        let by_entry : IsRankOf (λ m. T m place) true (settled_by_key slots keys place) at =
        subst (λ x. IsRankOf (λ m. ordering_then (slice_cmp nat_cmp (entry_at slots m).key x) (nat_cmp m place)) true (settled_by_key slots keys place) at) key found in
        ap (in_order T) (more s is)
        ∙ in_order_put T (slots_total slots) place before later at (apart s is) (subst (λ ms. IsRankOf (λ m. T m place) true (in_order T ms) at) out by_entry)
        ∙ sym (ap (λ ms. insert (in_order T ms) at place) out)

    pub settled_none_by_key : get_or slots place None ≡ None → settled_by_key slots keys (place + 1) ≡ settled_by_key slots keys place
    settled_none_by_key is = ap (in_order (key_and_slot slots)) (settled_none is)

    pub settled_kept_here : has_kept keys place ≡ true → settled_by_key slots keys (place + 1) ≡ settled_by_key slots keys place
    settled_kept_here kept = ap (in_order (key_and_slot slots)) (by (get_or slots place None) refl)
      where
        by : (slot : Option Stored) → get_or slots place None ≡ slot → settled slots keys (place + 1) ≡ settled slots keys place
        by None is = settled_none is
        by (Some s) is = settled_kept s is kept

  -- past the last place all are settled
  pub settled_all : (place : ℕ) → length slots ≤ place → settled_by_key slots keys place ≡ slots_by_key slots
  settled_all place past =
      ap (in_order (key_and_slot slots))
      (ap (λ ss. full_slots 0 (take place slots) ++ filter (has_kept keys) (full_slots place ss)) (drop_all place slots past)
      ∙ append-nil (full_slots 0 (take place slots)) ∙ ap (full_slots 0) (take_all place slots past))
      ∙ sym (tied_by_slot slots)

-- ---- what keeps its order

full_changed : (from : ℕ) (slots : List (Option Stored)) (keys : List (Option (List ℕ))) → full_slots from (slots_with_keys slots keys) ≡ full_slots from slots
full_changed from [] keys = refl
full_changed from (None ∷ slots) [] = refl
full_changed from (Some s ∷ slots) [] = refl
full_changed from (None ∷ slots) (key ∷ keys) = full_changed (from + 1) slots keys
full_changed from (Some s ∷ slots) (None ∷ keys) = ap (λ ms. from ∷ ms) (full_changed (from + 1) slots keys)
full_changed from (Some s ∷ slots) (Some key ∷ keys) = ap (λ ms. from ∷ ms) (full_changed (from + 1) slots keys)

same_slot : (slot : Option Stored) (key : Option (List ℕ)) → not (is_some key) ≡ true → slot_with_key slot key ≡ slot
same_slot None key h = refl
same_slot (Some s) None h = refl
same_slot (Some s) (Some key) h = cc

module _ (slots : List (Option Stored)) (keys : List (Option (List ℕ))) where
  same_entry : (m : ℕ) → has_kept keys m ≡ true → entry_at (slots_with_keys slots keys) m ≡ entry_at slots m
  same_entry m kept = ap entry_or_none (changed_at slots keys m ∙ same_slot (get_or slots m None) (get_or keys m None) kept)

  kept_alike : in_order (key_and_slot (slots_with_keys slots keys)) (filter (has_kept keys) (full_slots 0 slots)) ≡ settled_by_key slots keys 0
  kept_alike =
      let kept : List ℕ = filter (has_kept keys) (full_slots 0 slots) in
      let same : (m : ℕ) → Contains kept m → entry_at (slots_with_keys slots keys) m ≡ entry_at slots m =
      λ m h. same_entry m (All-contains (λ x. has_kept keys x ≡ true) kept m (filter_passes (has_kept keys) (full_slots 0 slots)) h) in
      in_order_alike (key_and_slot (slots_with_keys slots keys)) (key_and_slot slots) kept (λ x y hx hy.
      ap (λ e. ordering_then (key_order e (entry_at (slots_with_keys slots keys) y)) (nat_cmp x y)) (same x hx)
      ∙ ap (λ e. ordering_then (key_order (entry_at slots x) e) (nat_cmp x y)) (same y hy))

  slots_kept : (ps : List FrontedSlot) → slots_of (filter (is_at_kept keys) ps) ≡ filter (has_kept keys) (slots_of ps)
  slots_kept [] = refl
  slots_kept (p ∷ ps) =
      elim (has_kept keys p.slot) as (λ b. slots_of (cond b (p ∷ filter (is_at_kept keys) ps) (filter (is_at_kept keys) ps)) ≡ cond b (p.slot ∷ filter (has_kept keys) (slots_of ps)) (filter (has_kept keys) (slots_of ps))) [
        | true ↦ ap (λ ms. p.slot ∷ ms) (slots_kept ps)
        | false ↦ slots_kept ps
      ]

  pub settled_first : (ps : List FrontedSlot) → slots_of ps ≡ slots_by_key (slots_with_keys slots keys) → slots_of (filter (is_at_kept keys) ps) ≡ settled_by_key slots keys 0
  settled_first ps order =
      let old : List (Option Stored) = slots_with_keys slots keys in
      slots_kept ps
      ∙ ap (filter (has_kept keys)) (order ∙ tied_by_slot old)
      ∙ sym (in_order_filter (key_and_slot old) (slots_total old) (has_kept keys) (full_slots 0 old))
      ∙ ap (λ ms. in_order (key_and_slot old) (filter (has_kept keys) ms)) (full_changed 0 slots keys)
      ∙ kept_alike

  pub fronts_kept : (ps : List FrontedSlot) → AreFronted (slots_with_keys slots keys) ps → AreFronted slots (filter (is_at_kept keys) ps)
  fronts_kept ps fronts k d within =
      let old : List (Option Stored) = slots_with_keys slots keys in
      let passes = filter_passes (is_at_kept keys) ps k d within in
      let there = All-filter (is_at_kept keys) (λ p. IsFrontOf p.front (entry_at old p.slot).key) ps fronts k d within in
      subst (λ (e : StoredName). IsFrontOf (get_or (filter (is_at_kept keys) ps) k d).front e.key) (same_entry (get_or (filter (is_at_kept keys) ps) k d).slot passes) there

-- one more place, with its front
pub fronts_put : (slots : List (Option Stored)) (ps : List FrontedSlot) (at : ℕ) (p : FrontedSlot) (s : Stored) → AreFronted slots ps → get_or slots p.slot None ≡ Some s → IsFrontOf p.front s.key → AreFronted slots (insert ps at p)
fronts_put slots ps at p s fronts is front =
    All-insert (λ q. IsFrontOf q.front (entry_at slots q.slot).key) ps at p fronts
    (subst (λ (x : List ℕ). IsFrontOf p.front x) (sym (ap (λ (o : Option Stored). (entry_or_none o).key) is)) front)
