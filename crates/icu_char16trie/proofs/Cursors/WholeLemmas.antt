-- On units that keep the grammar an answer that is not the last begins a longer key.
use Rattle.std.proofs.Common.{◌≡◌, ℕ, ℤ, ◌+◌, ◌-◌, Bool, true, false, ◌==◌, if◌then◌else◌, ◌⊎◌, List, [], ◌∷◌, slice_get, Option, Some, None, refl, ap, sym, subst, inl, inr}
use Rattle.std.specs.Int.{cast_signed, w32}
use Rattle.icu_char16trie.specs.UnitNumbers.{after}
use Rattle.icu_char16trie.specs.UnitSteps.{small_part, begun, arrive_at, reached, matched, step}
use Rattle.icu_char16trie.specs.Cursors.{answer_of, state_of}
use Rattle.icu_char16trie.specs.UnitMaps.{Leads, Spot, at_node, at_state, MapsKey, ends, goes_on, run_on, run_out, branch_value, branch_node, IsLast, IsWhole, whole_end, whole_node, whole_run, whole_run_end, whole_branch}
use Rattle.icu_char16trie.specs.declared.node.Branch.{Branch}
use Rattle.icu_char16trie.specs.declared.node.Match.{Match}
use Rattle.icu_char16trie.specs.declared.node.Target.{Target}
use Rattle.icu_char16trie.specs.declared.node.Target.TheVariants.{Value, Node}
use Rattle.icu_char16trie.specs.declared.node.State.{State}
use Rattle.icu_char16trie.specs.declared.node.State.TheVariants as state
use Rattle.icu_char16trie.specs.declared.node.Arrival.{Arrival}
use Rattle.icu_char16trie.proofs.Cursors.SearchLemmas.{if_leb, if_not_leb}
use Rattle.icu_char16trie.proofs.Cursors.BranchLemmas.{found_in, leads_sound}
use Rattle.icu_char16trie.proofs.Cursors.StepLemmas.{behind_key, arrived, node-is, branched-is, run_at, match_at}

has-key : (units : List ℕ) {spot : Spot} → IsWhole units spot → (key : List ℕ) × (number : ℤ) × MapsKey units spot key number
has-key units (whole_end index value node) = ([], cast_signed w32 value, ends index value None node)
has-key units (whole_node index value next node rest) =
    let found = has-key units rest in (found.0, found.1, goes_on index value next found.0 found.1 node found.2)
has-key units (whole_run run unit e more rest) =
    let found = has-key units rest in (unit ∷ found.0, found.1, run_on run unit found.0 found.1 e more found.2)
has-key units (whole_run_end run unit e few rest) =
    let found = has-key units rest in (unit ∷ found.0, found.1, run_out run unit found.0 found.1 e few found.2)
has-key units (whole_branch branch unit (Value value) leads each) = (unit ∷ [], cast_signed w32 value, branch_value branch unit value leads)
has-key units (whole_branch branch unit (Node index) leads each) =
    let found = has-key units (each unit index leads) in (unit ∷ found.0, found.1, branch_node branch unit index found.0 found.1 leads found.2)

some-unit : (units : List ℕ) (next : State) (key : List ℕ) (number : ℤ) → MapsKey units (at_state next) key number
    → (unit : ℕ) × (rest : List ℕ) × (number : ℤ) × MapsKey units (at_state next) (unit ∷ rest) number
some-unit units next [] number h = absurd (behind_key units next number h)
some-unit units next (unit ∷ rest) number h = (unit, rest, number, h)

abbrev StaysWhole : List ℕ → Option Arrival → Type 0
StaysWhole units None = Unit {0}
StaysWhole units (Some a) = IsLast a.answer ⊎ IsWhole units (at_state a.state)

stays-if : (units : List ℕ) (b : Bool) (x y : Option Arrival) → StaysWhole units x → StaysWhole units y → StaysWhole units (if b then x else y)
stays-if units true x y h k = h
stays-if units false x y h k = k

stays-after : {A : Type 0} (units : List ℕ) (o : Option A) (f : A → Option Arrival) → ((x : A) → o ≡ Some x → StaysWhole units (f x)) → StaysWhole units (after o f)
stays-after units None f h = tt
stays-after units (Some x) f h = h x refl

stays-arrived : (units : List ℕ) (value : Option ℕ) (next : State) → IsWhole units (at_state next) → StaysWhole units (Some (arrived value (Some next)))
stays-arrived units None next rest = inr rest
stays-arrived units (Some value) next rest = inr rest

stays-node : (units : List ℕ) {index : ℕ} → IsWhole units (at_node index) → StaysWhole units (arrive_at units index)
stays-node units (whole_end index value node) = subst (λ o. StaysWhole units o) (sym (node-is units node)) (inl tt)
stays-node units (whole_node index value next node rest) = subst (λ o. StaysWhole units o) (sym (node-is units node)) (stays-arrived units value next rest)

stays-run : (units : List ℕ) (run : Match) (unit expected : ℕ) → slice_get units run.index ≡ Some expected → StaysWhole units (run_at units run)
    → StaysWhole units (matched units run unit)
stays-run units run unit expected e rest =
    subst (λ o. StaysWhole units o) (sym (ap (λ found. after found (match_at units run unit)) e))
    (stays-if units (expected == unit) (run_at units run) None rest tt)

stays-target : (units : List ℕ) (branch : Branch) (unit : ℕ) (target : Target) → Leads units branch unit target
    → ((other index : ℕ) → Leads units branch other (Node index) → IsWhole units (at_node index)) → StaysWhole units (reached units target)
stays-target units branch unit (Value value) leads each = inl tt
stays-target units branch unit (Node index) leads each = stays-node units (each unit index leads)

stays-step : (units : List ℕ) {next : State} (unit : ℕ) → IsWhole units (at_state next) → StaysWhole units (step units next unit)
stays-step units unit (whole_run run expected e more rest) =
    let go : State = state.Match (record { left = run.left - 1; index = run.index + 1 }) in
    stays-run units run unit expected e
    (subst (λ o. StaysWhole units o) (sym (if_not_leb run.left 1 (arrive_at units (run.index + 1)) (Some (begun go)) more)) (inr rest))
stays-step units unit (whole_run_end run expected e few rest) =
    let go : State = state.Match (record { left = run.left - 1; index = run.index + 1 }) in
    stays-run units run unit expected e
    (subst (λ o. StaysWhole units o) (sym (if_leb run.left 1 (arrive_at units (run.index + 1)) (Some (begun go)) few)) (stays-node units rest))
stays-step units unit (whole_branch branch first target leads each) =
    subst (λ o. StaysWhole units o) (sym (branched-is units branch unit))
    (stays-after units (after (small_part units unit branch.count branch) (found_in units unit)) (reached units)
    (λ found e. stays-target units branch unit found (leads_sound units unit branch.count branch found e) each))

stays-last : (units : List ℕ) (o : Option Arrival) → StaysWhole units o → IsLast (answer_of o) ⊎ IsWhole units (at_state (state_of o))
stays-last units None h = inl tt
stays-last units (Some a) h = h

pub has_more : (units : List ℕ) (next : State) → IsWhole units (at_state next) → (unit : ℕ) × (rest : List ℕ) × (number : ℤ) × MapsKey units (at_state next) (unit ∷ rest) number
has_more units next whole = let found = has-key units whole in some-unit units next found.0 found.1 found.2

-- what the step came to
module _ (units : List ℕ) (next : State) (unit : ℕ) (o : Option Arrival) (is : step units next unit ≡ o) where
  pub whole_of : IsWhole units (at_state next) → IsLast (answer_of o) ⊎ IsWhole units (at_state (state_of o))
  whole_of whole = stays-last units o (subst (λ o. StaysWhole units o) is (stays-step units unit whole))
