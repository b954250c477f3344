-- The searches within a branch, one step at a time.
use Rattle.std.proofs.Common.{◌≡◌, ℕ, ◌<◌, ◌≤◌, ltb, suc, zero, ◌+◌, ◌-◌, leb, ◌==◌, if◌then◌else◌, List, slice_get, Some, None, refl, ap, ◌∙◌, sym, arith}
use Rattle.icu_char16trie.specs.UnitNumbers.{after}
use Rattle.icu_char16trie.specs.UnitSteps.{half_of, small_part, entry_at, entry_target, target_in}
use Rattle.icu_char16trie.specs.declared.node.Branch.{Branch}
use Rattle.icu_char16trie.specs.declared.node.Entry.{Entry}
use Rattle.icu_char16trie.specs.declared.node.Target.TheVariants.{Node}

pred-suc : (n : ℕ) → n ≡ suc n - 1
pred-suc n = omega arith

if_suc : {A : Type 0} (n : ℕ) (a b : A) → b ≡ (if suc n == 0 then a else b)
if_suc n a b = grind arith

pub small_part_step : (units : List ℕ) (unit halvings : ℕ) (branch : Branch) →
    small_part units unit halvings branch ≡
    (if leb branch.count 5 then Some branch
    else (if halvings == 0 then None else after (half_of units unit branch) (λ half. small_part units unit (halvings - 1) half)))
unfolding small_part
small_part_step units unit zero branch = refl
small_part_step units unit (suc halvings) branch =
    ap (λ fewer. if leb branch.count 5 then Some branch else after (half_of units unit branch) (λ half. small_part units unit fewer half)) (pred-suc halvings)
    ∙ ap (λ more. if leb branch.count 5 then Some branch else more) (if_suc halvings None (after (half_of units unit branch) (λ half. small_part units unit (suc halvings - 1) half)))

pub target_in_step : (units : List ℕ) (unit entries index : ℕ) →
    target_in units unit entries index ≡
    (if entries == 0 then after (slice_get units index) (λ last. if last == unit then Some (Node (index + 1)) else None)
    else after (entry_at units index) (λ entry.
    if entry.unit == unit then entry_target units entry
    else target_in units unit (entries - 1) entry.number.end))
unfolding target_in
target_in_step units unit zero index = refl
target_in_step units unit (suc entries) index =
    ap (λ fewer. after (entry_at units index) (λ entry. if entry.unit == unit then entry_target units entry else target_in units unit fewer entry.number.end)) (pred-suc entries)
    ∙ if_suc entries (after (slice_get units index) (λ last. if last == unit then Some (Node (index + 1)) else None))
    (after (entry_at units index) (λ entry. if entry.unit == unit then entry_target units entry else target_in units unit (suc entries - 1) entry.number.end))

pub if_not_leb : {A : Type 0} (m n : ℕ) (a b : A) → n < m → (if leb m n then a else b) ≡ b
if_not_leb m n a b h = grind arith

if_zero : {A : Type 0} (n : ℕ) (a b : A) → (n ≡ 0 → ⊥) → (if n == 0 then a else b) ≡ b
if_zero n a b h = grind arith

pub if_eq : {A : Type 0} (m n : ℕ) (a b : A) → m ≡ n → (if m == n then a else b) ≡ a
if_eq m n a b h = grind arith

pub if_not_eq : {A : Type 0} (m n : ℕ) (a b : A) → (m ≡ n → ⊥) → (if m == n then a else b) ≡ b
if_not_eq m n a b h = grind arith

pub small_part-half : (units : List ℕ) (unit halvings : ℕ) (branch half : Branch) → 5 < branch.count → (halvings ≡ 0 → ⊥) →
    half_of units unit branch ≡ Some half → small_part units unit halvings branch ≡ small_part units unit (halvings - 1) half
small_part-half units unit halvings branch half big more is =
    small_part_step units unit halvings branch
    ∙ if_not_leb branch.count 5 (Some branch) (if halvings == 0 then None else after (half_of units unit branch) (λ half. small_part units unit (halvings - 1) half)) big
    ∙ if_zero halvings None (after (half_of units unit branch) (λ half. small_part units unit (halvings - 1) half)) more
    ∙ ap (λ found. after found (λ half. small_part units unit (halvings - 1) half)) is

module _ (units : List ℕ) (unit entries index : ℕ) (entry : Entry) (more : entries ≡ 0 → ⊥) (is : entry_at units index ≡ Some entry) where
  entered : target_in units unit entries index ≡ (if entry.unit == unit then entry_target units entry else target_in units unit (entries - 1) entry.number.end)
  entered =
      target_in_step units unit entries index
      ∙ if_zero entries (after (slice_get units index) (λ last. if last == unit then Some (Node (index + 1)) else None))
      (after (entry_at units index) (λ entry. if entry.unit == unit then entry_target units entry else target_in units unit (entries - 1) entry.number.end)) more
      ∙ ap (λ found. after found (λ entry. if entry.unit == unit then entry_target units entry else target_in units unit (entries - 1) entry.number.end)) is

  pub target_in-found : entry.unit ≡ unit → target_in units unit entries index ≡ entry_target units entry
  target_in-found same = entered ∙ if_eq entry.unit unit (entry_target units entry) (target_in units unit (entries - 1) entry.number.end) same

  pub target_in-on : (entry.unit ≡ unit → ⊥) → target_in units unit entries index ≡ target_in units unit (entries - 1) entry.number.end
  target_in-on other = entered ∙ if_not_eq entry.unit unit (entry_target units entry) (target_in units unit (entries - 1) entry.number.end) other

pub target_in-none : (units : List ℕ) (unit entries index : ℕ) → 0 < entries → entry_at units index ≡ None → target_in units unit entries index ≡ None
target_in-none units unit entries index more is =
    target_in_step units unit entries index
    ∙ if_zero entries (after (slice_get units index) (λ last. if last == unit then Some (Node (index + 1)) else None))
    (after (entry_at units index) (λ entry. if entry.unit == unit then entry_target units entry else target_in units unit (entries - 1) entry.number.end)) (λ none. omega (arith, none, more))
    ∙ ap (λ found. after found (λ entry. if entry.unit == unit then entry_target units entry else target_in units unit (entries - 1) entry.number.end)) is

target_in-last : (units : List ℕ) (unit entries index : ℕ) → entries ≤ 0 →
    target_in units unit entries index ≡ after (slice_get units index) (λ last. if last == unit then Some (Node (index + 1)) else None)
unfolding target_in
target_in-last units unit zero index none = refl
target_in-last units unit (suc entries) index none = absurd (omega (arith, none))

pub target_in-past : (units : List ℕ) (unit entries index : ℕ) → entries ≤ 0 → slice_get units index ≡ None → target_in units unit entries index ≡ None
target_in-past units unit entries index none is =
    target_in-last units unit entries index none ∙ ap (λ found. after found (λ last. if last == unit then Some (Node (index + 1)) else None)) is

pub target_in-end : (units : List ℕ) (unit entries index last : ℕ) → entries ≤ 0 → slice_get units index ≡ Some last → last ≡ unit → target_in units unit entries index ≡ Some (Node (index + 1))
target_in-end units unit entries index last none is same =
    target_in-last units unit entries index none ∙ ap (λ found. after found (λ last. if last == unit then Some (Node (index + 1)) else None)) is
    ∙ if_eq last unit (Some (Node (index + 1))) None same

pub target_in-other : (units : List ℕ) (unit entries index last : ℕ) → entries ≤ 0 → slice_get units index ≡ Some last → (last ≡ unit → ⊥) → target_in units unit entries index ≡ None
target_in-other units unit entries index last none is other =
    target_in-last units unit entries index none ∙ ap (λ found. after found (λ last. if last == unit then Some (Node (index + 1)) else None)) is
    ∙ if_not_eq last unit (Some (Node (index + 1))) None other

pub if_leb : {A : Type 0} (m n : ℕ) (a b : A) → m ≤ n → (if leb m n then a else b) ≡ a
if_leb m n a b h = grind arith

pub if_ltb : {A : Type 0} (m n : ℕ) (a b : A) → m < n → (if ltb m n then a else b) ≡ a
if_ltb m n a b h = grind arith

pub if_not_ltb : {A : Type 0} (m n : ℕ) (a b : A) → n ≤ m → (if ltb m n then a else b) ≡ b
if_not_ltb m n a b h = grind arith

pub small_part-small : (units : List ℕ) (unit halvings : ℕ) (branch : Branch) → branch.count ≤ 5 → small_part units unit halvings branch ≡ Some branch
small_part-small units unit halvings branch few =
    small_part_step units unit halvings branch
    ∙ if_leb branch.count 5 (Some branch) (if halvings == 0 then None else after (half_of units unit branch) (λ half. small_part units unit (halvings - 1) half)) few

pub small_part-none : (units : List ℕ) (unit : ℕ) (branch : Branch) → 5 < branch.count → small_part units unit zero branch ≡ None
unfolding small_part
small_part-none units unit branch many = if_not_leb branch.count 5 (Some branch) None many

pub small_part-on : (units : List ℕ) (unit halvings : ℕ) (branch : Branch) → 5 < branch.count
    → small_part units unit (suc halvings) branch ≡ after (half_of units unit branch) (λ half. small_part units unit halvings half)
unfolding small_part
small_part-on units unit halvings branch many = if_not_leb branch.count 5 (Some branch) (after (half_of units unit branch) (λ half. small_part units unit halvings half)) many

-- halving a branch comes to the part, with halvings enough to go on
pub record IsHalved (units : List ℕ) (unit : ℕ) (branch part : Branch) : Type 0 where
  pub halvings : ℕ
  pub enough : part.count ≤ halvings + 5
  pub same : small_part units unit branch.count branch ≡ small_part units unit halvings part

module _ (units : List ℕ) (unit : ℕ) (branch part : Branch) (h : IsHalved units unit branch part) where
  pub halved_last : part.count ≤ 5 → small_part units unit branch.count branch ≡ Some part
  halved_last few = h.same ∙ small_part-small units unit h.halvings part few

  halved-is : 5 < part.count → small_part units unit branch.count branch ≡ after (half_of units unit part) (λ half. small_part units unit (h.halvings - 1) half)
  halved-is many =
      let enough = h.enough in
      let more : suc (h.halvings - 1) ≡ h.halvings = omega (arith, enough, many) in
      h.same ∙ ap (λ halvings. small_part units unit halvings part) (sym more) ∙ small_part-on units unit (h.halvings - 1) part many

  pub halved_none : 5 < part.count → half_of units unit part ≡ None → small_part units unit branch.count branch ≡ None
  halved_none many none = halved-is many ∙ ap (λ found. after found (λ half. small_part units unit (h.halvings - 1) half)) none

  pub halved_more : (half : Branch) → 5 < part.count → half_of units unit part ≡ Some half → half.count < part.count → IsHalved units unit branch half
  halved_more half many is fewer =
      let enough = h.enough in
      record {
        halvings = h.halvings - 1;
        enough = omega (arith, enough, fewer, many);
        same = halved-is many ∙ ap (λ found. after found (λ half. small_part units unit (h.halvings - 1) half)) is;
      }
