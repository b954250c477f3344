-- The searches within a branch find what its unit leads to.
use Rattle.std.proofs.Common.{◌≡◌, ◌≢◌, ℕ, suc, zero, ◌+◌, ◌-◌, ◌/◌, ◌<◌, ◌≤◌, ltb, ◌==◌, if◌then◌else◌, List, slice_get, Option, Some, None, refl, ap, ◌∙◌, sym, subst, arith, ⊎_elim}
use Rattle.std.proofs.lemmas.Bool.{cases_lt, cases_eq}
use Rattle.std.proofs.lemmas.Option.{none-some}
use Rattle.icu_char16trie.specs.UnitNumbers.{after, delta, landing}
use Rattle.icu_char16trie.specs.UnitSteps.{half_of, small_part, entry_at, entry_target, target_in}
use Rattle.icu_char16trie.specs.UnitMaps.{Lists, last, here, later, Leads, listed, lower, upper}
use Rattle.icu_char16trie.specs.declared.cells.Number.{Number}
use Rattle.icu_char16trie.specs.declared.node.Branch.{Branch}
use Rattle.icu_char16trie.specs.declared.node.Target.{Target}
use Rattle.icu_char16trie.specs.declared.node.Target.TheVariants.{Node}
use Rattle.icu_char16trie.proofs.Cursors.SearchLemmas.{small_part-half, small_part-small, small_part-none, small_part-on, target_in-found, target_in-on, if_eq, if_not_eq, if_ltb, if_not_ltb}

pub after-some : {A B : Type 0} (o : Option A) (f : A → Option B) (y : B) → after o f ≡ Some y → (x : A) × (o ≡ Some x) × (f x ≡ Some y)
after-some None f y e = absurd (none-some y e)
after-some (Some x) f y e = (x, refl, e)

pub some-same : {A : Type 0} (x y : A) → Some x ≡ Some y → x ≡ y
some-same x y e = ap (λ o. elim o as (λ _. _) [ None ↦ x | Some z ↦ z ]) e

suc-positive : (n : ℕ) → suc n ≡ 0 → ⊥
suc-positive n e = omega (arith, e)

suc-pred : (n : ℕ) → suc n - 1 ≡ n
suc-pred n = omega arith

lists_complete : (units : List ℕ) {entries index unit : ℕ} {target : Target} → Lists units entries index unit target → target_in units unit entries index ≡ Some target
unfolding target_in
lists_complete units (last index unit e) =
    ap (λ found. after found (λ last. if last == unit then Some (Node (index + 1)) else None)) e
    ∙ if_eq unit unit (Some (Node (index + 1))) None refl
lists_complete units (here entries index unit entry target e same to) = target_in-found units unit (suc entries) index entry (suc-positive entries) e same ∙ to
lists_complete units (later entries index unit entry target e other rest) =
    target_in-on units unit (suc entries) index entry (suc-positive entries) e other
    ∙ ap (λ fewer. target_in units unit fewer entry.number.end) (suc-pred entries)
    ∙ lists_complete units rest

lists_sound : (units : List ℕ) (unit entries index : ℕ) (target : Target) → target_in units unit entries index ≡ Some target → Lists units entries index unit target
unfolding target_in
lists_sound units unit zero index target e =
    let found = after-some (slice_get units index) (λ last. if last == unit then Some (Node (index + 1)) else None) target e in
    ⊎_elim
    (λ (same : found.0 ≡ unit). subst (λ target. Lists units zero index unit target)
    (some-same (Node (index + 1)) target (sym (if_eq found.0 unit (Some (Node (index + 1))) None same) ∙ found.2))
    (last index unit (found.1 ∙ ap Some same)))
    (λ (other : found.0 ≢ unit). absurd (none-some target (sym (if_not_eq found.0 unit (Some (Node (index + 1))) None other) ∙ found.2)))
    (cases_eq found.0 unit)
lists_sound units unit (suc entries) index target e =
    let found = after-some (entry_at units index) (λ entry. if entry.unit == unit then entry_target units entry else target_in units unit entries entry.number.end) target e in
    ⊎_elim
    (λ (same : found.0.unit ≡ unit). here entries index unit found.0 target found.1 same
    (sym (if_eq found.0.unit unit (entry_target units found.0) (target_in units unit entries found.0.number.end) same) ∙ found.2))
    (λ (other : found.0.unit ≢ unit). later entries index unit found.0 target found.1 other
    (lists_sound units unit entries found.0.number.end target
    (sym (if_not_eq found.0.unit unit (entry_target units found.0) (target_in units unit entries found.0.number.end) other) ∙ found.2)))
    (cases_eq found.0.unit unit)

abbrev pub found_in : List ℕ → ℕ → Branch → Option Target
found_in units unit part = target_in units unit (part.count - 1) part.index

module _ (units : List ℕ) (unit : ℕ) (branch : Branch) (middle : ℕ) (jump : Number) (middle-is : slice_get units branch.index ≡ Some middle) (jump-is : delta units (branch.index + 1) ≡ Some jump) where
  half-is : half_of units unit branch ≡
      (if ltb unit middle then after (landing units jump) (λ index. Some (record { count = branch.count / 2; index = index }))
      else Some (record { count = branch.count - branch.count / 2; index = jump.end }))
  half-is =
      ap (λ found. after found (λ middle. after (delta units (branch.index + 1)) (λ jump.
      if ltb unit middle then after (landing units jump) (λ index. Some (record { count = branch.count / 2; index = index }))
      else Some (record { count = branch.count - branch.count / 2; index = jump.end })))) middle-is
      ∙ ap (λ found. after found (λ jump.
      if ltb unit middle then after (landing units jump) (λ index. Some (record { count = branch.count / 2; index = index }))
      else Some (record { count = branch.count - branch.count / 2; index = jump.end }))) jump-is

  half-lower : (index : ℕ) → unit < middle → landing units jump ≡ Some index → half_of units unit branch ≡ Some (record { count = branch.count / 2; index = index })
  half-lower index less lands =
      half-is
      ∙ if_ltb unit middle (after (landing units jump) (λ index. Some (record { count = branch.count / 2; index = index }))) (Some (record { count = branch.count - branch.count / 2; index = jump.end })) less
      ∙ ap (λ found. after found (λ index. Some (record { count = branch.count / 2; index = index }))) lands

  half-upper : middle ≤ unit → half_of units unit branch ≡ Some (record { count = branch.count - branch.count / 2; index = jump.end })
  half-upper more =
      half-is
      ∙ if_not_ltb unit middle (after (landing units jump) (λ index. Some (record { count = branch.count / 2; index = index }))) (Some (record { count = branch.count - branch.count / 2; index = jump.end })) more

pub leads_complete : (units : List ℕ) {branch : Branch} {unit : ℕ} {target : Target} → Leads units branch unit target → (halvings : ℕ) → branch.count ≤ halvings + 5
    → after (small_part units unit halvings branch) (found_in units unit) ≡ Some target
leads_complete units (listed branch unit target few among) halvings bound =
    ap (λ part. after part (found_in units unit)) (small_part-small units unit halvings branch few) ∙ lists_complete units among
leads_complete units (lower branch unit middle index jump target many middle-is jump-is less lands rest) zero bound = absurd (omega (arith, many, bound))
leads_complete units (lower branch unit middle index jump target many middle-is jump-is less lands rest) (suc halvings) bound =
    let half : Branch = record { count = branch.count / 2; index = index } in
    ap (λ part. after part (found_in units unit))
    (small_part-half units unit (suc halvings) branch half many (suc-positive halvings) (half-lower units unit branch middle jump middle-is jump-is index less lands)
    ∙ ap (λ fewer. small_part units unit fewer half) (suc-pred halvings))
    ∙ leads_complete units rest halvings (omega (arith, many, bound))
leads_complete units (upper branch unit middle jump target many middle-is jump-is more rest) zero bound = absurd (omega (arith, many, bound))
leads_complete units (upper branch unit middle jump target many middle-is jump-is more rest) (suc halvings) bound =
    let half : Branch = record { count = branch.count - branch.count / 2; index = jump.end } in
    ap (λ part. after part (found_in units unit))
    (small_part-half units unit (suc halvings) branch half many (suc-positive halvings) (half-upper units unit branch middle jump middle-is jump-is more)
    ∙ ap (λ fewer. small_part units unit fewer half) (suc-pred halvings))
    ∙ leads_complete units rest halvings (omega (arith, many, bound))

half-leads : (units : List ℕ) (unit : ℕ) (branch half : Branch) (target : Target) → 5 < branch.count → half_of units unit branch ≡ Some half
    → Leads units half unit target → Leads units branch unit target
half-leads units unit branch half target many e rest =
    let found = after-some (slice_get units branch.index) (λ middle. after (delta units (branch.index + 1)) (λ jump.
    if ltb unit middle then after (landing units jump) (λ index. Some (record { count = branch.count / 2; index = index }))
    else Some (record { count = branch.count - branch.count / 2; index = jump.end }))) half e in
    let jumps = after-some (delta units (branch.index + 1)) (λ jump.
    if ltb unit found.0 then after (landing units jump) (λ index. Some (record { count = branch.count / 2; index = index }))
    else Some (record { count = branch.count - branch.count / 2; index = jump.end })) half found.2 in
    let below : Option Branch = after (landing units jumps.0) (λ index. Some (record { count = branch.count / 2; index = index })) in
    let above : Branch = record { count = branch.count - branch.count / 2; index = jumps.0.end } in
    ⊎_elim
    (λ (less : unit < found.0).
    let lands = after-some (landing units jumps.0) (λ index. Some (record { count = branch.count / 2; index = index })) half
    (sym (if_ltb unit found.0 below (Some above) less) ∙ jumps.2) in
    lower branch unit found.0 lands.0 jumps.0 target many found.1 jumps.1 less lands.1
    (subst (λ half. Leads units half unit target) (sym (some-same (record { count = branch.count / 2; index = lands.0 }) half lands.2)) rest))
    (λ (more : found.0 ≤ unit).
    upper branch unit found.0 jumps.0 target many found.1 jumps.1 more
    (subst (λ half. Leads units half unit target) (sym (some-same above half (sym (if_not_ltb unit found.0 below (Some above) more) ∙ jumps.2))) rest))
    (cases_lt unit found.0)

pub leads_sound : (units : List ℕ) (unit halvings : ℕ) (branch : Branch) (target : Target) → after (small_part units unit halvings branch) (found_in units unit) ≡ Some target
    → Leads units branch unit target
leads_sound units unit zero branch target e =
    ⊎_elim
    (λ (many : 5 < branch.count). absurd (none-some target (sym (ap (λ part. after part (found_in units unit)) (small_part-none units unit branch many)) ∙ e)))
    (λ (few : branch.count ≤ 5). listed branch unit target few (lists_sound units unit (branch.count - 1) branch.index target
    (sym (ap (λ part. after part (found_in units unit)) (small_part-small units unit zero branch few)) ∙ e)))
    (cases_lt 5 branch.count)
leads_sound units unit (suc halvings) branch target e =
    ⊎_elim
    (λ (many : 5 < branch.count).
    let part = after-some (small_part units unit (suc halvings) branch) (found_in units unit) target e in
    let half = after-some (half_of units unit branch) (λ half. small_part units unit halvings half) part.0 (sym (small_part-on units unit halvings branch many) ∙ part.1) in
    half-leads units unit branch half.0 target many half.1
    (leads_sound units unit halvings half.0 target (ap (λ part. after part (found_in units unit)) half.2 ∙ part.2)))
    (λ (few : branch.count ≤ 5). listed branch unit target few (lists_sound units unit (branch.count - 1) branch.index target
    (sym (ap (λ part. after part (found_in units unit)) (small_part-small units unit (suc halvings) branch few)) ∙ e)))
    (cases_lt 5 branch.count)
