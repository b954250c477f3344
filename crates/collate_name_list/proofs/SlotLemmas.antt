-- the full slots: which they are, that each stands once and they rise, and what one more slot and an emptied one change
use Rattle.std.proofs.Common.{◌≡◌, ℕ, zero, suc, ◌+◌, ◌<◌, ◌≤◌, true, false, not, cond, eqb, List, [], ◌∷◌, ◌++◌, length, get_or, set, Option, Some, None, is_some, refl, sym, ap, ◌∙◌, subst, arith, eq-eqb, ne_eqb, lt-ltb, true≢false, ⊎_elim, ◌⊎◌, inl, inr, Less, Equal, Greater, nat_cmp}
use Rattle.std.specs.List.{All, AllPairs, Contains, filter, sum_by}
use Rattle.std.proofs.lemmas.Bool.{cases_lt}
use Rattle.std.proofs.lemmas.List.{get_or_append_left, get_or_push, get_or_past, length_push, get_or-set_same, get_or-set_other}
use Rattle.std.proofs.lemmas.List.Elements.{All-nil, All-cons, All-weaker, All-contains}
use Rattle.std.proofs.lemmas.List.Kept.{AllPairs-cons}
use Rattle.std.proofs.lemmas.List.Sums.{sum_by-cons}
use Rattle.collate_name_list.specs.Slots.{entry_of, entry_or_none, entry_at, IsFull, full_slots}
use Rattle.collate_name_list.specs.declared.slots.Stored.{Stored}
use Rattle.collate_name_list.proofs.NameListItemLemmas.{one_if, none_left}

-- ---- which slots are full

-- each is counted from `from` on, and has a name
IsCounted : ℕ → List (Option Stored) → ℕ → Type 0
IsCounted from slots m = (k : ℕ) × (m ≡ from + k) × (k < length slots) × IsFull slots k

full_counted : (from : ℕ) (slots : List (Option Stored)) → All (IsCounted from slots) (full_slots from slots)
unfolding IsCounted
full_counted from [] = All-nil (IsCounted from [])
full_counted from (None ∷ slots) =
    All-weaker (IsCounted (from + 1) slots) (IsCounted from (None ∷ slots)) (λ m h. (suc h.0, omega (arith, h.1), omega (arith, h.2), h.3)) (full_slots (from + 1) slots) (full_counted (from + 1) slots)
full_counted from (Some s ∷ slots) =
    All-cons (IsCounted from (Some s ∷ slots)) from (full_slots (from + 1) slots) (0, omega arith, omega arith, refl)
    (All-weaker (IsCounted (from + 1) slots) (IsCounted from (Some s ∷ slots)) (λ m h. (suc h.0, omega (arith, h.1), omega (arith, h.2), h.3)) (full_slots (from + 1) slots) (full_counted (from + 1) slots))

pub record IsSlot (slots : List (Option Stored)) (m : ℕ) : Type 0 where
  pub within : m < length slots
  pub full : IsFull slots m

pub full_are_slots : (slots : List (Option Stored)) → All (IsSlot slots) (full_slots 0 slots)
unfolding IsCounted
full_are_slots slots =
    All-weaker (IsCounted 0 slots) (IsSlot slots)
    (λ m h. let same : h.0 ≡ m = omega (arith, h.1) in record { within = omega (arith, h.2); full = subst (IsFull slots) same h.3 })
    (full_slots 0 slots) (full_counted 0 slots)

-- a slot that has a name is one of those
contains_counted : (m from k : ℕ) (slots : List (Option Stored)) → m ≡ from + k → IsFull slots k → Contains (full_slots from slots) m
contains_counted m from k [] e h = absurd (true≢false (sym h))
contains_counted m from zero (None ∷ slots) e h = absurd (true≢false (sym h))
contains_counted m from zero (Some s ∷ slots) e h = (0, omega arith, omega arith)
contains_counted m from (suc k) (None ∷ slots) e h = contains_counted m (from + 1) k slots (omega arith) h
contains_counted m from (suc k) (Some s ∷ slots) e h =
    let later : Contains (full_slots (from + 1) slots) m = contains_counted m (from + 1) k slots (omega arith) h in
    (suc later.0, omega (arith, later.1), later.2)

pub contains_full : (slots : List (Option Stored)) (m : ℕ) → IsFull slots m → Contains (full_slots 0 slots) m
contains_full slots m h = contains_counted m 0 m slots (omega arith) h

pub slot_from_contains : (slots : List (Option Stored)) (m : ℕ) → Contains (full_slots 0 slots) m → IsSlot slots m
slot_from_contains slots m h = All-contains (IsSlot slots) (full_slots 0 slots) m (full_are_slots slots) h

pub full_below : (slots : List (Option Stored)) (m : ℕ) → IsFull slots m → m < length slots
full_below slots m h =
    ⊎_elim (λ (l : m < length slots). l) (λ (l : length slots ≤ m). absurd (true≢false (sym h ∙ ap is_some (get_or_past slots m None l)))) (cases_lt m (length slots))

-- ---- each once, rising

pub none_before : (m from : ℕ) (slots : List (Option Stored)) → m < from → sum_by (one_if m) (full_slots from slots) ≡ 0
none_before m from [] h = refl
none_before m from (None ∷ slots) h = none_before m (from + 1) slots (omega arith)
none_before m from (Some s ∷ slots) h =
    let off : one_if m from ≡ 0 = ap (λ b. cond b 1 0) (ne_eqb from m (λ (e : from ≡ m). omega arith)) in
    let later : sum_by (one_if m) (full_slots (from + 1) slots) ≡ 0 = none_before m (from + 1) slots (omega arith) in
    sum_by-cons (one_if m) from (full_slots (from + 1) slots) ∙ omega (arith, off, later)

counted_once : (m from k : ℕ) (slots : List (Option Stored)) → m ≡ from + k → IsFull slots k → sum_by (one_if m) (full_slots from slots) ≡ 1
counted_once m from k [] e h = absurd (true≢false (sym h))
counted_once m from zero (None ∷ slots) e h = absurd (true≢false (sym h))
counted_once m from zero (Some s ∷ slots) e h =
    let here : one_if m from ≡ 1 = ap (λ b. cond b 1 0) (eq-eqb from m (omega arith)) in
    let later : sum_by (one_if m) (full_slots (from + 1) slots) ≡ 0 = none_before m (from + 1) slots (omega arith) in
    sum_by-cons (one_if m) from (full_slots (from + 1) slots) ∙ omega (arith, here, later)
counted_once m from (suc k) (None ∷ slots) e h = counted_once m (from + 1) k slots (omega arith) h
counted_once m from (suc k) (Some s ∷ slots) e h =
    let off : one_if m from ≡ 0 = ap (λ b. cond b 1 0) (ne_eqb from m (λ (f : from ≡ m). omega arith)) in
    let later : sum_by (one_if m) (full_slots (from + 1) slots) ≡ 1 = counted_once m (from + 1) k slots (omega arith) h in
    sum_by-cons (one_if m) from (full_slots (from + 1) slots) ∙ omega (arith, off, later)

pub full_once : (slots : List (Option Stored)) (m : ℕ) → IsFull slots m → sum_by (one_if m) (full_slots 0 slots) ≡ 1
full_once slots m h = counted_once m 0 m slots (omega arith) h

pub full_rises : (from : ℕ) (slots : List (Option Stored)) → AllPairs (λ x y. x < y) (full_slots from slots)
unfolding IsCounted
full_rises from [] = λ i j d l m. absurd (omega arith)
full_rises from (None ∷ slots) = full_rises (from + 1) slots
full_rises from (Some s ∷ slots) =
    AllPairs-cons (λ x y. x < y) from (full_slots (from + 1) slots)
    (All-weaker (IsCounted (from + 1) slots) (λ y. from < y) (λ y h. omega (arith, h.1)) (full_slots (from + 1) slots) (full_counted (from + 1) slots))
    (full_rises (from + 1) slots)

less_if : (x y : ℕ) → x < y → nat_cmp x y ≡ Less
less_if x y h = ap (λ b. cond b Less (cond (eqb x y) Equal Greater)) (lt-ltb x y h)

pub full_less : (slots : List (Option Stored)) → AllPairs (λ x y. nat_cmp x y ≡ Less) (full_slots 0 slots)
full_less slots i j d l m = less_if (get_or (full_slots 0 slots) i d) (get_or (full_slots 0 slots) j d) (full_rises 0 slots i j d l m)

-- ---- one more slot

pub full_push : (from : ℕ) (slots : List (Option Stored)) (s : Stored) → full_slots from (slots ++ Some s ∷ []) ≡ full_slots from slots ++ (from + length slots) ∷ []
full_push from [] s = let same : from ≡ from + 0 = omega arith in ap (λ m. m ∷ []) same
full_push from (None ∷ slots) s =
    let same : from + 1 + length slots ≡ from + suc (length slots) = omega arith in
    full_push (from + 1) slots s ∙ ap (λ m. full_slots (from + 1) slots ++ m ∷ []) same
full_push from (Some t ∷ slots) s =
    let same : from + 1 + length slots ≡ from + suc (length slots) = omega arith in
    ap (λ ys. from ∷ ys) (full_push (from + 1) slots s ∙ ap (λ m. full_slots (from + 1) slots ++ m ∷ []) same)

pub entry_before : (slots : List (Option Stored)) (s : Stored) (m : ℕ) → m < length slots → entry_at (slots ++ Some s ∷ []) m ≡ entry_at slots m
entry_before slots s m l = ap entry_or_none (get_or_append_left slots (Some s ∷ []) None m l)

pub entry_pushed : (slots : List (Option Stored)) (s : Stored) (m : ℕ) → length slots ≡ m → entry_at (slots ++ Some s ∷ []) m ≡ entry_of s
entry_pushed slots s m e = ap entry_or_none (get_or_push slots (Some s) None m e)

-- a full slot was there before, or is the new one
pub full_before : (slots : List (Option Stored)) (s : Stored) (m : ℕ) → m < length slots → IsFull (slots ++ Some s ∷ []) m → IsFull slots m
full_before slots s m l h = sym (ap is_some (get_or_append_left slots (Some s ∷ []) None m l)) ∙ h

pub new_or_before : (slots : List (Option Stored)) (s : Stored) (m : ℕ) → IsFull (slots ++ Some s ∷ []) m → (m < length slots) ⊎ (length slots ≡ m)
new_or_before slots s m h =
    let within : m < length (slots ++ Some s ∷ []) = full_below (slots ++ Some s ∷ []) m h in
    let long : length (slots ++ Some s ∷ []) ≡ length slots + 1 = length_push slots (Some s) in
    ⊎_elim (λ (l : m < length slots). inl l) (λ (l : length slots ≤ m). inr (omega arith)) (cases_lt m (length slots))

-- ---- an emptied slot

full_without : (m from k : ℕ) (slots : List (Option Stored)) → m ≡ from + k → full_slots from (set slots k None) ≡ filter (λ x. not (eqb x m)) (full_slots from slots)
full_without m from k [] e = refl
full_without m from zero (None ∷ slots) e = sym (none_left m (full_slots (from + 1) slots) (none_before m (from + 1) slots (omega arith)))
full_without m from zero (Some s ∷ slots) e =
    let later : List ℕ = full_slots (from + 1) slots in
    let here : eqb from m ≡ true = eq-eqb from m (omega arith) in
    sym (ap (λ b. cond (not b) (from ∷ filter (λ x. not (eqb x m)) later) (filter (λ x. not (eqb x m)) later)) here
    ∙ none_left m later (none_before m (from + 1) slots (omega arith)))
full_without m from (suc k) (None ∷ slots) e = full_without m (from + 1) k slots (omega arith)
full_without m from (suc k) (Some s ∷ slots) e =
    let later : List ℕ = full_slots (from + 1) slots in
    let other : eqb from m ≡ false = ne_eqb from m (λ (f : from ≡ m). omega arith) in
    ap (λ ys. from ∷ ys) (full_without m (from + 1) k slots (omega arith))
    ∙ sym (ap (λ b. cond (not b) (from ∷ filter (λ x. not (eqb x m)) later) (filter (λ x. not (eqb x m)) later)) other)

pub full_emptied : (slots : List (Option Stored)) (k : ℕ) → full_slots 0 (set slots k None) ≡ filter (λ x. not (eqb x k)) (full_slots 0 slots)
full_emptied slots k = full_without k 0 k slots (omega arith)

pub entry_other : (slots : List (Option Stored)) (k m : ℕ) → (m ≡ k → ⊥) → entry_at (set slots k None) m ≡ entry_at slots m
entry_other slots k m n = ap entry_or_none (get_or-set_other slots k m None None n)

-- a slot that is still full is another one, and was full
pub still_full : (slots : List (Option Stored)) (k m : ℕ) → k < length slots → IsFull (set slots k None) m → (m ≡ k → ⊥) × IsFull slots m
still_full slots k m l h =
    let other : m ≡ k → ⊥ = λ (e : m ≡ k). true≢false (sym h ∙ ap is_some (ap (λ at. get_or (set slots k None) at None) e ∙ get_or-set_same slots k None None l)) in
    (other, sym (ap is_some (get_or-set_other slots k m None None other)) ∙ h)
