-- slots with their fronts: one more, one less, the same over other slots, and read by rank
use Rattle.std.proofs.Common.{◌≡◌, ℕ, suc, ◌+◌, ◌-◌, ◌<◌, ◌≤◌, List, [], ◌∷◌, ◌++◌, length, map, get_or, set, take, drop, slice_get, Option, Some, None, refl, sym, ap, ◌∙◌, subst, arith, Ordering, Less, Equal, Greater, nat_cmp}
use Rattle.std.specs.List.{All, insert, remove}
use Rattle.std.specs.Cmp.Lexicographic.{slice_cmp}
use Rattle.std.specs.Ordering.{ordering_then}
use Rattle.std.specs.Option.{option_map}
use Rattle.std.proofs.lemmas.List.{length-map, get_or-map, map-append, take-map, drop-map}
use Rattle.std.proofs.lemmas.List.Elements.{All-weaker}
use Rattle.std.proofs.lemmas.Option.{slice_get_within, get_or_from_slice_get, slice_get-map}
use Rattle.collate_lists.specs.Fronts.{IsFrontOf}
use Rattle.collate_lists.specs.Windows.{shows}
use Rattle.collate_lists.specs.declared.windows.FrontedSlot.{FrontedSlot}
use Rattle.collate_lists.proofs.Rows.{All-insert, All-remove}
use Rattle.collate_name_list.specs.StoredNames.{StoredName}
use Rattle.collate_name_list.specs.Slots.{AreFronted, IsFull, compared, entry_at, entry_of, slots_of, sought_key}
use Rattle.collate_name_list.specs.declared.slots.Stored.{Stored}
use Rattle.collate_name_list.specs.declared.slots.Sought.{Sought}
use Rattle.collate_name_list.specs.declared.slots.Sought.TheVariants.{Key, Slot}
use Rattle.collate_name_list.proofs.SlotLemmas.{IsSlot, entry_before, entry_pushed, entry_other, still_full}

-- ---- slots

pub length_fronted : (ps : List FrontedSlot) → length (slots_of ps) ≡ length ps
length_fronted ps = length-map ps (λ (p : FrontedSlot). p.slot)

pub slots-insert : (ps : List FrontedSlot) (n : ℕ) (p : FrontedSlot) → slots_of (insert ps n p) ≡ insert (slots_of ps) n p.slot
slots-insert ps n p =
    let f : FrontedSlot → ℕ = λ q. q.slot in
    map-append f (take n ps) (p ∷ drop n ps)
    ∙ ap (λ xs. xs ++ f p ∷ map f (drop n ps)) (sym (take-map f n ps))
    ∙ ap (λ xs. take n (map f ps) ++ f p ∷ xs) (sym (drop-map f n ps))

pub slots-remove : (ps : List FrontedSlot) (n : ℕ) → slots_of (remove ps n) ≡ remove (slots_of ps) n
slots-remove ps n =
    let f : FrontedSlot → ℕ = λ q. q.slot in
    map-append f (take n ps) (drop (suc n) ps)
    ∙ ap (λ xs. xs ++ map f (drop (suc n) ps)) (sym (take-map f n ps))
    ∙ ap (λ xs. take n (map f ps) ++ xs) (sym (drop-map f (suc n) ps))

pub slot_read : (ps : List FrontedSlot) (n : ℕ) (p : FrontedSlot) → slice_get ps n ≡ Some p → slice_get (slots_of ps) n ≡ Some p.slot
slot_read ps n p h = slice_get-map (λ (q : FrontedSlot). q.slot) ps n ∙ ap (λ o. option_map (λ (q : FrontedSlot). q.slot) o) h

pub slot_none : (ps : List FrontedSlot) (n : ℕ) → slice_get ps n ≡ None → slice_get (slots_of ps) n ≡ None
slot_none ps n h = slice_get-map (λ (q : FrontedSlot). q.slot) ps n ∙ ap (λ o. option_map (λ (q : FrontedSlot). q.slot) o) h

pub all_fronted : (P : ℕ → Type 0) (ps : List FrontedSlot) → All P (slots_of ps) → All (λ p. P p.slot) ps
all_fronted P ps h i d l = subst P (get_or-map (λ (p : FrontedSlot). p.slot) ps i d d.slot l) (h i d.slot (omega (arith, length_fronted ps)))

-- what stands in a part at a rank stands there in all
pub shown_at : (ps part : List FrontedSlot) (start rank : ℕ) (p : FrontedSlot) → shows ps start part → start ≤ rank → slice_get part (rank - start) ≡ Some p → slice_get ps rank ≡ Some p
shown_at ps part start rank p shown from there =
    let at : start + (rank - start) ≡ rank = omega arith in
    subst (λ n. slice_get ps n ≡ Some p) at (shown (rank - start) p there)

pub all_read : (P : FrontedSlot → Type 0) (ps : List FrontedSlot) (n : ℕ) (p : FrontedSlot) → All P ps → slice_get ps n ≡ Some p → P p
all_read P ps n p h e = subst P (get_or_from_slice_get ps n p p e) (h n p (slice_get_within ps n p e))

-- ---- fronts

pub fronts_alike : (old new : List (Option Stored)) (ps : List FrontedSlot) → All (λ p. entry_at new p.slot ≡ entry_at old p.slot) ps → AreFronted old ps → AreFronted new ps
fronts_alike old new ps same fronts i d l = subst (λ (e : StoredName). IsFrontOf (get_or ps i d).front e.key) (sym (same i d l)) (fronts i d l)

pub push_fronts : (slots : List (Option Stored)) (n : Stored) (ps : List FrontedSlot) (at : ℕ) (p : FrontedSlot) → All (IsSlot slots) (slots_of ps) → AreFronted slots ps → p.slot ≡ length slots → IsFrontOf p.front (entry_of n).key → AreFronted (slots ++ Some n ∷ []) (insert ps at p)
push_fronts slots n ps at p are fronts newest front =
    let more : List (Option Stored) = slots ++ Some n ∷ [] in
    let same : All (λ m. entry_at more m ≡ entry_at slots m) (slots_of ps) = All-weaker (IsSlot slots) (λ m. entry_at more m ≡ entry_at slots m) (λ m h. entry_before slots n m h.within) (slots_of ps) are in
    All-insert (λ q. IsFrontOf q.front (entry_at more q.slot).key) ps at p
    (fronts_alike slots more ps (all_fronted (λ m. entry_at more m ≡ entry_at slots m) ps same) fronts)
    (subst (λ (e : StoredName). IsFrontOf p.front e.key) (sym (entry_pushed slots n p.slot (sym newest))) front)

pub remove_fronts : (slots : List (Option Stored)) (k at : ℕ) (ps : List FrontedSlot) → k < length slots → All (IsFull (set slots k None)) (slots_of (remove ps at)) → AreFronted slots ps → AreFronted (set slots k None) (remove ps at)
remove_fronts slots k at ps l full fronts =
    let less : List (Option Stored) = set slots k None in
    let same : All (λ m. entry_at less m ≡ entry_at slots m) (slots_of (remove ps at)) =
    All-weaker (IsFull less) (λ m. entry_at less m ≡ entry_at slots m) (λ m h. entry_other slots k m (still_full slots k m l h).0) (slots_of (remove ps at)) full in
    fronts_alike slots less (remove ps at) (all_fronted (λ m. entry_at less m ≡ entry_at slots m) (remove ps at) same)
    (All-remove (λ q. IsFrontOf q.front (entry_at slots q.slot).key) ps at fronts)

-- ---- what fronts tell

then_decided : (r t : Ordering) → (r ≡ Equal → ⊥) → ordering_then r t ≡ r
then_decided Less t h = refl
then_decided Equal t h = absurd (h refl)
then_decided Greater t h = refl

pub front_decides : (slots : List (Option Stored)) (sought : Sought) (slot : ℕ) (r : Ordering) → slice_cmp nat_cmp (entry_at slots slot).key (sought_key sought) ≡ r → (r ≡ Equal → ⊥) → r ≡ compared slots sought slot
front_decides slots (Key key) slot r h n = sym h
front_decides slots (Slot key other) slot r h n = sym (ap (λ o. ordering_then o (nat_cmp slot other)) h ∙ then_decided r (nat_cmp slot other) n)
