-- the names in slots: one more, one less, and which are there
use Rattle.std.proofs.Common.{◌≡◌, ℕ, ◌+◌, ◌<◌, true, not, eqb, List, [], ◌∷◌, ◌++◌, length, map, get_or, set, Option, Some, None, sym, ap, ◌∙◌, arith, ⊎_elim, bytes_eq}
use Rattle.std.specs.List.{All, Contains}
use Rattle.std.proofs.lemmas.Bool.{not-true, eqb-false}
use Rattle.std.proofs.lemmas.Bool.Decides.{same_from_decides, Decides-eqb, Decides-like}
use Rattle.std.proofs.lemmas.List.{length-map, get_or-map, map_push}
use Rattle.std.proofs.lemmas.List.Elements.{All-weaker}
use Rattle.std.proofs.lemmas.Slice.Eq.{bytes_eq-Decides}
use Rattle.collate_name_list.specs.StoredNames.{StoredName, names_of, without, AreDistinct}
use Rattle.collate_name_list.specs.Slots.{entry_of, entry_at, IsFull, full_slots, entries, HaveOwnNames}
use Rattle.collate_name_list.specs.declared.slots.Stored.{Stored}
use Rattle.collate_name_list.proofs.NameListItemLemmas.{map_alike, map_filter}
use Rattle.collate_name_list.proofs.SlotLemmas.{IsSlot, full_are_slots, contains_full, full_rises, full_push, entry_before, entry_pushed, full_before, new_or_before, full_emptied, entry_other, still_full}

-- ---- one more

pub entries_push : (slots : List (Option Stored)) (s : Stored) → entries (slots ++ Some s ∷ []) ≡ entries slots ++ entry_of s ∷ []
entries_push slots s =
    let places : List ℕ = full_slots 0 slots in
    let now : ℕ → StoredName = entry_at (slots ++ Some s ∷ []) in
    let same : All (λ m. now m ≡ entry_at slots m) places = All-weaker (IsSlot slots) (λ m. now m ≡ entry_at slots m) (λ m h. entry_before slots s m h.within) places (full_are_slots slots) in
    ap (map now) (full_push 0 slots s)
    ∙ map_push now places (0 + length slots)
    ∙ ap (λ ys. ys ++ now (0 + length slots) ∷ []) (map_alike now (entry_at slots) places same)
    ∙ ap (λ e. map (entry_at slots) places ++ e ∷ []) (entry_pushed slots s (0 + length slots) (omega arith))

-- ---- which are there

pub length_names : (slots : List (Option Stored)) → length (names_of (entries slots)) ≡ length (full_slots 0 slots)
length_names slots = length-map (entries slots) (λ (e : StoredName). e.name) ∙ length-map (full_slots 0 slots) (entry_at slots)

pub name_at : (slots : List (Option Stored)) (i : ℕ) (d : List ℕ) (m : ℕ) → i < length (full_slots 0 slots) → get_or (names_of (entries slots)) i d ≡ (entry_at slots (get_or (full_slots 0 slots) i m)).name
name_at slots i d m l =
    let places : List ℕ = full_slots 0 slots in
    let within : i < length (entries slots) = omega (arith, length-map places (entry_at slots)) in
    get_or-map (λ (e : StoredName). e.name) (entries slots) i (entry_at slots m) d within
    ∙ ap (λ (e : StoredName). e.name) (get_or-map (entry_at slots) places i m (entry_at slots m) l)

pub name_there : (slots : List (Option Stored)) (m : ℕ) (name : List ℕ) → IsFull slots m → (entry_at slots m).name ≡ name → Contains (names_of (entries slots)) name
name_there slots m name full named =
    let found : Contains (full_slots 0 slots) m = contains_full slots m full in
    (found.0, omega (arith, found.1, length_names slots), name_at slots found.0 name m found.1 ∙ ap (λ x. (entry_at slots x).name) found.2 ∙ named)

pub entry_there : (slots : List (Option Stored)) (m : ℕ) (stored : StoredName) → IsFull slots m → entry_at slots m ≡ stored → Contains (entries slots) stored
entry_there slots m stored full is =
    let found : Contains (full_slots 0 slots) m = contains_full slots m full in (
      found.0,
      omega (arith, found.1, length-map (full_slots 0 slots) (entry_at slots)),
      get_or-map (entry_at slots) (full_slots 0 slots) found.0 m stored found.1 ∙ ap (entry_at slots) found.2 ∙ is,
    )

pub slot_there : (slots : List (Option Stored)) (name : List ℕ) → Contains (names_of (entries slots)) name → (m : ℕ) × IsFull slots m × ((entry_at slots m).name ≡ name)
slot_there slots name h =
    let within : h.0 < length (full_slots 0 slots) = omega (arith, h.1, length_names slots) in
    let is : IsSlot slots (get_or (full_slots 0 slots) h.0 0) = full_are_slots slots h.0 0 within in
    (get_or (full_slots 0 slots) h.0 0, is.full, sym (name_at slots h.0 name 0 within) ∙ h.2)

-- ---- no name twice

pub distinct_from_own : (slots : List (Option Stored)) → HaveOwnNames slots → AreDistinct (entries slots)
distinct_from_own slots own i j d l h e =
    let places : List ℕ = full_slots 0 slots in
    let last : j < length places = omega (arith, length_names slots) in
    let first : i < length places = omega arith in
    let low : IsSlot slots (get_or places i 0) = full_are_slots slots i 0 first in
    let high : IsSlot slots (get_or places j 0) = full_are_slots slots j 0 last in
    let same : get_or places i 0 ≡ get_or places j 0 =
    own (get_or places i 0) (get_or places j 0) low.full high.full (sym (name_at slots i d 0 first) ∙ e ∙ name_at slots j d 0 last) in
    let rises : get_or places i 0 < get_or places j 0 = full_rises 0 slots i j 0 l last in
    omega (arith, same, rises)

pub own_push : (slots : List (Option Stored)) (s : Stored) → HaveOwnNames slots → (Contains (names_of (entries slots)) s.bytes.items → ⊥) → HaveOwnNames (slots ++ Some s ∷ [])
own_push slots s own absent a b full_a full_b same =
    let more : List (Option Stored) = slots ++ Some s ∷ [] in
    let old_name : (m : ℕ) → m < length slots → (entry_at more m).name ≡ (entry_at slots m).name = λ m l. ap (λ (e : StoredName). e.name) (entry_before slots s m l) in
    let new_name : (m : ℕ) → length slots ≡ m → (entry_at more m).name ≡ s.bytes.items = λ m e. ap (λ (e : StoredName). e.name) (entry_pushed slots s m e) in
    let clash : (m n : ℕ) → m < length slots → IsFull more m → length slots ≡ n → (entry_at more m).name ≡ (entry_at more n).name → ⊥ =
    λ m n l full e again. absurd (absent (name_there slots m s.bytes.items (full_before slots s m l full) (sym (old_name m l) ∙ again ∙ new_name n e))) in
    ⊎_elim (λ (la : a < length slots).
    ⊎_elim (λ (lb : b < length slots). own a b (full_before slots s a la full_a) (full_before slots s b lb full_b) (sym (old_name a la) ∙ same ∙ old_name b lb))
    (λ (eb : length slots ≡ b). absurd (clash a b la full_a eb same)) (new_or_before slots s b full_b))
    (λ (ea : length slots ≡ a).
    ⊎_elim (λ (lb : b < length slots). absurd (clash b a lb full_b ea (sym same)))
    (λ (eb : length slots ≡ b). sym ea ∙ eb) (new_or_before slots s b full_b))
    (new_or_before slots s a full_a)

pub own_emptied : (slots : List (Option Stored)) (k : ℕ) → k < length slots → HaveOwnNames slots → HaveOwnNames (set slots k None)
own_emptied slots k l own a b full_a full_b same =
    let is_a : (a ≡ k → ⊥) × IsFull slots a = still_full slots k a l full_a in
    let is_b : (b ≡ k → ⊥) × IsFull slots b = still_full slots k b l full_b in
    own a b is_a.1 is_b.1 (sym (ap (λ (e : StoredName). e.name) (entry_other slots k a is_a.0)) ∙ same ∙ ap (λ (e : StoredName). e.name) (entry_other slots k b is_b.0))

-- ---- one less

module _ (slots : List (Option Stored)) (k : ℕ) (name : List ℕ) (full : IsFull slots k) (named : (entry_at slots k).name ≡ name) (own : HaveOwnNames slots) where
  same_test : (m : ℕ) → IsFull slots m → eqb m k ≡ bytes_eq (entry_at slots m).name name
  same_test m there =
      let here : List ℕ = (entry_at slots m).name in
      let to : here ≡ name → m ≡ k = λ e. own m k there full (e ∙ sym named) in
      let from : m ≡ k → here ≡ name = λ e. ap (λ x. (entry_at slots x).name) e ∙ named in
      same_from_decides (eqb m k) (bytes_eq here name) (Decides-eqb m k) (Decides-like (bytes_eq here name) to from (bytes_eq-Decides here name))

  other_stays : (m : ℕ) → not (eqb m k) ≡ true → entry_at (set slots k None) m ≡ entry_at slots m
  other_stays m h = entry_other slots k m (eqb-false m k (not-true (eqb m k) h))

  pub entries_without : entries (set slots k None) ≡ without name (entries slots)
  entries_without =
      let places : List ℕ = full_slots 0 slots in
      ap (map (entry_at (set slots k None))) (full_emptied slots k)
      ∙ map_filter (entry_at slots) (entry_at (set slots k None)) (λ m. not (eqb m k)) (λ e. not (bytes_eq e.name name)) places
      (All-weaker (IsSlot slots) (λ m. not (eqb m k) ≡ not (bytes_eq (entry_at slots m).name name)) (λ m h. ap not (same_test m h.full)) places (full_are_slots slots))
      (λ i d l. other_stays (get_or places i d))
