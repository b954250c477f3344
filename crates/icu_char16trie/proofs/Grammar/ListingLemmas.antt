-- The keys and values that units in the grammar spell, in order.
use Rattle.std.proofs.Common.{◌≡◌, ℕ, ℤ, ◌+◌, ◌-◌, ◌/◌, ◌<◌, ◌≤◌, ◌++◌, List, [], ◌∷◌, Option, Some, None, refl, ap, ◌∙◌, sym, subst, arith, inl, inr, ◌⊎◌, ⊎_elim}
use Rattle.std.specs.Int.{cast_signed, w32}
use Rattle.icu_char16trie.specs.UnitSteps.{entry_at, entry_target}
use Rattle.icu_char16trie.specs.UnitMaps.{at_node, at_state, MapsKey, ends, goes_on, run_on, run_out, branch_value, branch_node, Leads, listed, lower, upper, Lists, later, IsNode}
use Rattle.icu_char16trie.specs.UnitPairs.{Has}
use Rattle.icu_char16trie.specs.UnitGrammar.{GrammarPart, spot, within, IsSound, sound_end, sound_node, sound_run, sound_run_end, sound_branch, sound_last, sound_value, sound_jump, sound_halves}
use Rattle.icu_char16trie.specs.declared.node.Branch.{Branch}
use Rattle.icu_char16trie.specs.declared.node.Entry.{Entry}
use Rattle.icu_char16trie.specs.declared.node.Target.{Target}
use Rattle.icu_char16trie.specs.declared.node.Target.TheVariants.{Value, Node}
use Rattle.icu_char16trie.specs.declared.node.State.{State}
use Rattle.icu_char16trie.specs.declared.node.State.TheVariants as state
use Rattle.icu_char16trie.proofs.Cursors.BranchLemmas.{some-same}
use Rattle.icu_char16trie.proofs.Grammar.SoundLemmas.{fewer, last_leads, entry_leads, last_target, entry_found, leads_listed, leads_half}

abbrev pub Pair : Type 0
Pair = List ℕ × ℤ

-- the keys go on with the unit first
abbrev pub behind_unit : ℕ → List Pair → List Pair
behind_unit unit [] = []
behind_unit unit (pair ∷ rest) = (unit ∷ pair.0, pair.1) ∷ behind_unit unit rest

-- the empty key first, if it has a value
abbrev pub with_value : Option ℕ → List Pair → List Pair
with_value None pairs = pairs
with_value (Some value) pairs = ([], cast_signed w32 value) ∷ pairs

-- the keys and values in order
unfoldable pub listing : (units : List ℕ) {part : GrammarPart} → IsSound units part → List Pair
listing units (sound_end index value node) = ([], cast_signed w32 value) ∷ []
listing units (sound_node index value next node rest) = with_value value (listing units rest)
listing units (sound_run run unit e more rest) = behind_unit unit (listing units rest)
listing units (sound_run_end run unit e few rest) = behind_unit unit (listing units rest)
listing units (sound_branch branch rest) = listing units rest
listing units (sound_last branch low high unit one e above below rest) = behind_unit unit (listing units rest)
listing units (sound_value branch low high value entry more few e to above below rest) = (entry.unit ∷ [], cast_signed w32 value) ∷ listing units rest
listing units (sound_jump branch low high index entry more few e to above below node rest) = behind_unit entry.unit (listing units node) ++ listing units rest
listing units (sound_halves branch low high middle index jump many e d lands above below first second) = listing units first ++ listing units second

pub has-left : (xs ys : List Pair) (key : List ℕ) (number : ℤ) → Has xs key number → Has (xs ++ ys) key number
has-left [] ys key number h = absurd h
has-left (x ∷ xs) ys key number h = ⊎_elim (λ here. inl here) (λ rest. inr (has-left xs ys key number rest)) h

pub has-right : (xs ys : List Pair) (key : List ℕ) (number : ℤ) → Has ys key number → Has (xs ++ ys) key number
has-right [] ys key number h = h
has-right (x ∷ xs) ys key number h = inr (has-right xs ys key number h)

pub has-cases : (xs ys : List Pair) (key : List ℕ) (number : ℤ) → Has (xs ++ ys) key number → Has xs key number ⊎ Has ys key number
has-cases [] ys key number h = inr h
has-cases (x ∷ xs) ys key number h = ⊎_elim (λ here. inl (inl here)) (λ rest. ⊎_elim (λ a. inl (inr a)) (λ b. inr b) (has-cases xs ys key number rest)) h

pub has-behind : (unit : ℕ) (xs : List Pair) (key : List ℕ) (number : ℤ) → Has xs key number → Has (behind_unit unit xs) (unit ∷ key) number
has-behind unit [] key number h = absurd h
has-behind unit (x ∷ xs) key number h = ⊎_elim (λ here. inl (ap (λ key. unit ∷ key) here.0, here.1)) (λ rest. inr (has-behind unit xs key number rest)) h

pub behind-has : (unit : ℕ) (xs : List Pair) (key : List ℕ) (number : ℤ) → Has (behind_unit unit xs) key number → (rest : List ℕ) × (key ≡ unit ∷ rest) × Has xs rest number
behind-has unit [] key number h = absurd h
behind-has unit (x ∷ xs) key number h =
    ⊎_elim (λ here. (x.0, sym here.0, inl (refl, here.1)))
    (λ more. let found = behind-has unit xs key number more in (found.0, found.1, inr found.2)) h

-- the bounds of what the units of a branch lead to
abbrev Bounds : List ℕ → GrammarPart → Type 0
Bounds units (spot s) = Unit {0}
Bounds units (within branch low high) = (unit : ℕ) (target : Target) → Leads units branch unit target → (low ≤ unit) × (unit < high)

bounds : (units : List ℕ) {part : GrammarPart} → IsSound units part → Bounds units part
bounds units (sound_end index value node) = tt
bounds units (sound_node index value next node rest) = tt
bounds units (sound_run run unit e more rest) = tt
bounds units (sound_run_end run unit e few rest) = tt
bounds units (sound_branch branch rest) = tt
bounds units (sound_last branch low high unit one e above below rest) = λ other target leads.
    let found = last_target units (leads_listed units leads (omega (arith, one))) (omega (arith, one)) in
    let same : unit ≡ other = some-same unit other (sym e ∙ found.0) in
    (omega (arith, above, same), omega (arith, below, same))
bounds units (sound_value branch low high value entry more few e to above below rest) = λ other target leads.
    ⊎_elim
    (λ (found : (entry.unit ≡ other) × (entry_target units entry ≡ Some target)). (omega (arith, above, found.0), omega (arith, below, found.0)))
    (λ (found : Lists units (branch.count - 1 - 1) entry.number.end other target).
    let h = bounds units rest other target (listed (fewer branch entry) other target (omega (arith, few)) found) in (omega (arith, above, h.0), h.1))
    (entry_found units (leads_listed units leads few) entry (omega (arith, more)) e)
bounds units (sound_jump branch low high index entry more few e to above below node rest) = λ other target leads.
    ⊎_elim
    (λ (found : (entry.unit ≡ other) × (entry_target units entry ≡ Some target)). (omega (arith, above, found.0), omega (arith, below, found.0)))
    (λ (found : Lists units (branch.count - 1 - 1) entry.number.end other target).
    let h = bounds units rest other target (listed (fewer branch entry) other target (omega (arith, few)) found) in (omega (arith, above, h.0), h.1))
    (entry_found units (leads_listed units leads few) entry (omega (arith, more)) e)
bounds units (sound_halves branch low high middle index jump many e d lands above below first second) = λ other target leads.
    ⊎_elim
    (λ (found : (other < middle) × Leads units (record { count = branch.count / 2; index = index }) other target).
    let h = bounds units first other target found.1 in (h.0, omega (arith, h.1, below)))
    (λ (found : (middle ≤ other) × Leads units (record { count = branch.count - branch.count / 2; index = jump.end }) other target).
    let h = bounds units second other target found.1 in (omega (arith, h.0, above), h.1))
    (leads_half units middle index jump leads many e d lands)

-- a branch leads as another does, and so spells its keys
widen : (units : List ℕ) (wide : Branch) {branch : Branch} {key : List ℕ} {number : ℤ} → MapsKey units (at_state (state.Branch branch)) key number
    → ((unit : ℕ) (target : Target) → Leads units branch unit target → Leads units wide unit target) → MapsKey units (at_state (state.Branch wide)) key number
widen units wide (branch_value branch unit value leads) f = branch_value wide unit value (f unit (Value value) leads)
widen units wide (branch_node branch unit index key number leads rest) f = branch_node wide unit index key number (f unit (Node index) leads) rest

-- after its first entry a branch leads as what is left of it does
later-leads : (units : List ℕ) (branch : Branch) (entry : Entry) {high : ℕ} → 1 < branch.count → branch.count ≤ 5 → entry_at units branch.index ≡ Some entry
    → Bounds units (within (fewer branch entry) (entry.unit + 1) high)
    → (unit : ℕ) (target : Target) → Leads units (fewer branch entry) unit target → Leads units branch unit target
later-leads units branch entry more few e inside unit target leads =
    let above = (inside unit target leads).0 in
    listed branch unit target few
    (subst (λ entries. Lists units entries branch.index unit target) (omega (arith, more))
    (later (branch.count - 1 - 1) branch.index unit entry target e (λ same. omega (arith, above, same)) (leads_listed units leads (omega (arith, few)))))

-- what is spelled in a part
abbrev pub SpelledIn : List ℕ → GrammarPart → List ℕ → ℤ → Type 0
SpelledIn units (spot s) key number = MapsKey units s key number
SpelledIn units (within branch low high) key number = MapsKey units (at_state (state.Branch branch)) key number

value-spelled : (units : List ℕ) (index value : ℕ) (next : Option State) (key : List ℕ) (number : ℤ) → IsNode units index (Some value) next
    → ([] ≡ key) × (cast_signed w32 value ≡ number) → MapsKey units (at_node index) key number
value-spelled units index value next key number node h =
    subst (λ key. MapsKey units (at_node index) key number) h.0 (subst (λ number. MapsKey units (at_node index) [] number) h.1 (ends index value next node))

node-spelled : (units : List ℕ) (index : ℕ) (value : Option ℕ) (next : State) (pairs : List Pair) (key : List ℕ) (number : ℤ) → IsNode units index value (Some next)
    → (Has pairs key number → MapsKey units (at_state next) key number) → Has (with_value value pairs) key number → MapsKey units (at_node index) key number
node-spelled units index None next pairs key number node f h = goes_on index None next key number node (f h)
node-spelled units index (Some value) next pairs key number node f h =
    ⊎_elim (λ here. value-spelled units index value (Some next) key number node here) (λ rest. goes_on index (Some value) next key number node (f rest)) h

pub listed_spelled : (units : List ℕ) {part : GrammarPart} (s : IsSound units part) (key : List ℕ) (number : ℤ) → Has (listing units s) key number → SpelledIn units part key number
unfolding listing
listed_spelled units (sound_end index value node) key number h =
    ⊎_elim (λ here. value-spelled units index value None key number node here) (λ rest. absurd rest) h
listed_spelled units (sound_node index value next node rest) key number h =
    node-spelled units index value next (listing units rest) key number node (listed_spelled units rest key number) h
listed_spelled units (sound_run run unit e more rest) key number h =
    let found = behind-has unit (listing units rest) key number h in
    subst (λ key. MapsKey units (at_state (state.Match run)) key number) (sym found.1) (run_on run unit found.0 number e more (listed_spelled units rest found.0 number found.2))
listed_spelled units (sound_run_end run unit e few rest) key number h =
    let found = behind-has unit (listing units rest) key number h in
    subst (λ key. MapsKey units (at_state (state.Match run)) key number) (sym found.1) (run_out run unit found.0 number e few (listed_spelled units rest found.0 number found.2))
listed_spelled units (sound_branch branch rest) key number h = listed_spelled units rest key number h
listed_spelled units (sound_last branch low high unit one e above below rest) key number h =
    let found = behind-has unit (listing units rest) key number h in
    subst (λ key. MapsKey units (at_state (state.Branch branch)) key number) (sym found.1)
    (branch_node branch unit (branch.index + 1) found.0 number (last_leads units branch unit one e) (listed_spelled units rest found.0 number found.2))
listed_spelled units (sound_value branch low high value entry more few e to above below rest) key number h =
    ⊎_elim
    (λ here. subst (λ key. MapsKey units (at_state (state.Branch branch)) key number) here.0
    (subst (λ number. MapsKey units (at_state (state.Branch branch)) (entry.unit ∷ []) number) here.1
    (branch_value branch entry.unit value (entry_leads units branch entry (Value value) more few e to))))
    (λ others. widen units branch (listed_spelled units rest key number others) (later-leads units branch entry more few e (bounds units rest)))
    h
listed_spelled units (sound_jump branch low high index entry more few e to above below node rest) key number h =
    ⊎_elim
    (λ (there : Has (behind_unit entry.unit (listing units node)) key number).
    let found = behind-has entry.unit (listing units node) key number there in
    subst (λ key. MapsKey units (at_state (state.Branch branch)) key number) (sym found.1)
    (branch_node branch entry.unit index found.0 number (entry_leads units branch entry (Node index) more few e to) (listed_spelled units node found.0 number found.2)))
    (λ (others : Has (listing units rest) key number). widen units branch (listed_spelled units rest key number others) (later-leads units branch entry more few e (bounds units rest)))
    (has-cases (behind_unit entry.unit (listing units node)) (listing units rest) key number h)
listed_spelled units (sound_halves branch low high middle index jump many e d lands above below first second) key number h =
    ⊎_elim
    (λ (there : Has (listing units first) key number). widen units branch (listed_spelled units first key number there)
    (λ unit target leads. lower branch unit middle index jump target many e d (bounds units first unit target leads).1 lands leads))
    (λ (there : Has (listing units second) key number). widen units branch (listed_spelled units second key number there)
    (λ unit target leads. upper branch unit middle jump target many e d (bounds units second unit target leads).0 leads))
    (has-cases (listing units first) (listing units second) key number h)
