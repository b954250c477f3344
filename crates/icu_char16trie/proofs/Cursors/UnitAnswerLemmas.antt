-- What a cursor answers to a unit, by the keys that units spell.
use Rattle.std.proofs.Common.{◌≡◌, ℕ, ℤ, ◌+◌, ◌-◌, ◌%◌, Bool, true, false, leb, ◌==◌, if◌then◌else◌, ◌↔◌, List, [], ◌∷◌, length, slice_get, Option, Some, None, refl, ap, subst, arith, inl, inr, ⊎_elim}
use Rattle.icu_char16trie.specs.UnitNumbers.{after, final_number, intermediate_number}
use Rattle.icu_char16trie.specs.UnitSteps.{small_part, target_in, opened, ended, passed, begun, arrive_at, reached, step}
use Rattle.icu_char16trie.specs.Cursors.{answer_of, state_of}
use Rattle.icu_char16trie.specs.UnitMaps.{at_state, MapsKey, HasValue, IsLast}
use Rattle.icu_char16trie.specs.declared.node.Target.{Target}
use Rattle.icu_char16trie.specs.declared.node.Target.TheVariants.{Value, Node}
use Rattle.icu_char16trie.specs.declared.node.State.{State}
use Rattle.icu_char16trie.specs.declared.node.State.TheVariants as state
use Rattle.icu_char16trie.specs.declared.node.Arrival.{Arrival}
use Rattle.icu_char16trie.proofs.Cursors.StepLemmas.{Says, behind_key, stopped_none, step_forth, step_back}

cons-not-empty : (unit : ℕ) (key : List ℕ) → unit ∷ key ≡ [] → ⊥
cons-not-empty unit key e = omega (arith, ap length e)

valued-says : (units : List ℕ) (o : Option Arrival) (number : ℤ) → HasValue (answer_of o) number → Says units o [] number
valued-says units None number h = absurd h
valued-says units (Some a) number h = inl (refl, h)

says-valued : (units : List ℕ) (o : Option Arrival) (number : ℤ) → Says units o [] number → HasValue (answer_of o) number
says-valued units None number h = absurd h
says-valued units (Some a) number h = ⊎_elim (λ here. here.1) (λ rest. absurd (behind_key units a.state number rest)) h

pub value_law : (units : List ℕ) (next : State) (unit : ℕ) (number : ℤ) →
    HasValue (answer_of (step units next unit)) number ↔ MapsKey units (at_state next) (unit ∷ []) number
value_law units next unit number = (
  (λ h. step_back units next unit [] number (valued-says units (step units next unit) number h)),
  (λ h. says-valued units (step units next unit) number (step_forth units h)),
)

spelled-says : (units : List ℕ) (o : Option Arrival) (key : List ℕ) (number : ℤ) → MapsKey units (at_state (state_of o)) key number → Says units o key number
spelled-says units None key number h = absurd (stopped_none units key number h)
spelled-says units (Some a) key number h = inr h

says-spelled : (units : List ℕ) (o : Option Arrival) (unit : ℕ) (key : List ℕ) (number : ℤ) → Says units o (unit ∷ key) number
    → MapsKey units (at_state (state_of o)) (unit ∷ key) number
says-spelled units None unit key number h = absurd h
says-spelled units (Some a) unit key number h = ⊎_elim (λ here. absurd (cons-not-empty unit key here.0)) (λ rest. rest) h

pub longer_law : (units : List ℕ) (next : State) (unit more : ℕ) (key : List ℕ) (number : ℤ) →
    MapsKey units (at_state (state_of (step units next unit))) (more ∷ key) number ↔ MapsKey units (at_state next) (unit ∷ more ∷ key) number
longer_law units next unit more key number = (
  (λ h. step_back units next unit (more ∷ key) number (spelled-says units (step units next unit) (more ∷ key) number h)),
  (λ h. says-spelled units (step units next unit) more key number (step_forth units h)),
)

abbrev IsCalm : Option Arrival → Type 0
IsCalm None = Unit {0}
IsCalm (Some a) = IsLast a.answer → a.state ≡ state.Stopped

calm-after : {A : Type 0} (o : Option A) (f : A → Option Arrival) → ((x : A) → IsCalm (f x)) → IsCalm (after o f)
calm-after None f h = tt
calm-after (Some x) f h = h x

calm-if : (b : Bool) (x y : Option Arrival) → IsCalm x → IsCalm y → IsCalm (if b then x else y)
calm-if true x y h k = h
calm-if false x y h k = k

calm-node : (units : List ℕ) (index : ℕ) → IsCalm (arrive_at units index)
calm-node units index = calm-after (slice_get units index) (λ lead.
    if leb 0x8000 lead then after (final_number units (lead - 0x8000) (index + 1)) (λ number. Some (ended number.value))
    else (if leb 0x40 lead then after (intermediate_number units lead (index + 1)) (λ number.
    after (opened units (lead % 0x40) number.end) (λ next. Some (passed number.value next)))
    else after (opened units lead (index + 1)) (λ next. Some (begun next))))
    (λ lead. calm-if (leb 0x8000 lead) _ _
    (calm-after (final_number units (lead - 0x8000) (index + 1)) (λ number. Some (ended number.value)) (λ number last. refl))
    (calm-if (leb 0x40 lead) _ _
    (calm-after (intermediate_number units lead (index + 1)) (λ number. after (opened units (lead % 0x40) number.end) (λ next. Some (passed number.value next)))
    (λ number. calm-after (opened units (lead % 0x40) number.end) (λ next. Some (passed number.value next)) (λ next last. absurd last)))
    (calm-after (opened units lead (index + 1)) (λ next. Some (begun next)) (λ next last. absurd last))))

calm-reached : (units : List ℕ) (target : Target) → IsCalm (reached units target)
calm-reached units (Value value) = λ last. refl
calm-reached units (Node index) = calm-node units index

calm-step : (units : List ℕ) (next : State) (unit : ℕ) → IsCalm (step units next unit)
calm-step units (state.Stopped) unit = tt
calm-step units (state.Match run) unit = calm-after (slice_get units run.index) (λ expected.
    if expected == unit then (if leb run.left 1 then arrive_at units (run.index + 1)
    else Some (begun (state.Match (record { left = run.left - 1; index = run.index + 1 }))))
    else None)
    (λ expected. calm-if (expected == unit) _ _ (calm-if (leb run.left 1) _ _ (calm-node units (run.index + 1)) (λ last. absurd last)) tt)
calm-step units (state.Branch branch) unit = calm-after (small_part units unit branch.count branch) (λ part.
    after (target_in units unit (part.count - 1) part.index) (λ target. reached units target))
    (λ part. calm-after (target_in units unit (part.count - 1) part.index) (λ target. reached units target) (λ target. calm-reached units target))

calm-stops : (o : Option Arrival) → IsCalm o → IsLast (answer_of o) → state_of o ≡ state.Stopped
calm-stops None calm last = refl
calm-stops (Some a) calm last = calm last

pub stopped_of : (units : List ℕ) (next : State) (unit : ℕ) (o : Option Arrival) → step units next unit ≡ o → IsLast (answer_of o) → state_of o ≡ state.Stopped
stopped_of units next unit o is = subst (λ o. IsLast (answer_of o) → state_of o ≡ state.Stopped) is (calm-stops (step units next unit) (calm-step units next unit))
