-- What a unit leads to spells the keys that go on with the unit.
use Rattle.std.proofs.Common.{◌≡◌, ◌≢◌, ℕ, ℤ, ◌+◌, ◌-◌, ◌%◌, ◌<◌, ◌≤◌, leb, ◌==◌, if◌then◌else◌, List, [], ◌∷◌, slice_get, Option, Some, None, refl, ap, ◌∙◌, sym, subst, arith, inl, inr, ◌⊎◌, ⊎_elim}
use Rattle.std.specs.Int.{cast_signed, w32}
use Rattle.std.proofs.lemmas.Bool.{cases_lt, cases_eq}
use Rattle.std.proofs.lemmas.Option.{none-some}
use Rattle.icu_char16trie.specs.UnitNumbers.{after, final_number, intermediate_number}
use Rattle.icu_char16trie.specs.UnitSteps.{small_part, opened, ended, passed, begun, arrive_at, reached, matched, branched, step}
use Rattle.icu_char16trie.specs.UnitMaps.{Leads, IsNode, final, valued, bare, at_node, at_state, MapsKey, ends, goes_on, run_on, run_out, branch_value, branch_node, HasValue}
use Rattle.icu_char16trie.specs.declared.cells.Number.{Number}
use Rattle.icu_char16trie.specs.declared.node.Branch.{Branch}
use Rattle.icu_char16trie.specs.declared.node.Match.{Match}
use Rattle.icu_char16trie.specs.declared.node.Target.{Target}
use Rattle.icu_char16trie.specs.declared.node.Target.TheVariants.{Value, Node}
use Rattle.icu_char16trie.specs.declared.node.State.{State}
use Rattle.icu_char16trie.specs.declared.node.State.TheVariants as state
use Rattle.icu_char16trie.specs.declared.node.Arrival.{Arrival}
use Rattle.icu_char16trie.proofs.Cursors.SearchLemmas.{if_eq, if_not_eq, if_leb, if_not_leb}
use Rattle.icu_char16trie.proofs.Cursors.BranchLemmas.{after-some, some-same, found_in, leads_complete, leads_sound}

-- the key and its value are spelled by what a unit led to
abbrev pub Says : List ℕ → Option Arrival → List ℕ → ℤ → Type 0
Says units None key number = ⊥
Says units (Some arrived) key number = ((key ≡ []) × HasValue arrived.answer number) ⊎ MapsKey units (at_state arrived.state) key number

pub behind_key : (units : List ℕ) (next : State) (number : ℤ) → MapsKey units (at_state next) [] number → ⊥
behind_key units next number h = elim h [ ]

pub stopped_none : (units : List ℕ) (key : List ℕ) (number : ℤ) → MapsKey units (at_state state.Stopped) key number → ⊥
stopped_none units key number h = elim h [ ]

abbrev final_at : List ℕ → ℕ → ℕ → Option Arrival
final_at units index lead = after (final_number units (lead - 0x8000) (index + 1)) (λ number. Some (ended number.value))

abbrev valued_behind : List ℕ → ℕ → Number → Option Arrival
valued_behind units lead number = after (opened units (lead % 0x40) number.end) (λ next. Some (passed number.value next))

abbrev valued_at : List ℕ → ℕ → ℕ → Option Arrival
valued_at units index lead = after (intermediate_number units lead (index + 1)) (valued_behind units lead)

abbrev bare_at : List ℕ → ℕ → ℕ → Option Arrival
bare_at units index lead = after (opened units lead (index + 1)) (λ next. Some (begun next))

abbrev lower_at : List ℕ → ℕ → ℕ → Option Arrival
lower_at units index lead = if leb 0x40 lead then valued_at units index lead else bare_at units index lead

abbrev lead_at : List ℕ → ℕ → ℕ → Option Arrival
lead_at units index lead = if leb 0x8000 lead then final_at units index lead else lower_at units index lead

abbrev pub arrived : Option ℕ → Option State → Arrival
arrived (Some value) None = ended value
arrived (Some value) (Some next) = passed value next
arrived None (Some next) = begun next
arrived None None = begun state.Stopped

pub node-is : (units : List ℕ) {index : ℕ} {value : Option ℕ} {next : Option State} → IsNode units index value next → arrive_at units index ≡ Some (arrived value next)
node-is units (final index lead number e high reads) =
    ap (λ found. after found (lead_at units index)) e
    ∙ if_leb 0x8000 lead (final_at units index lead) (lower_at units index lead) high
    ∙ ap (λ found. after found (λ number. Some (ended number.value))) reads
node-is units (valued index lead number next e low high reads opens) =
    ap (λ found. after found (lead_at units index)) e
    ∙ if_not_leb 0x8000 lead (final_at units index lead) (lower_at units index lead) low
    ∙ if_leb 0x40 lead (valued_at units index lead) (bare_at units index lead) high
    ∙ ap (λ found. after found (valued_behind units lead)) reads
    ∙ ap (λ found. after found (λ next. Some (passed number.value next))) opens
node-is units (bare index lead next e low opens) =
    ap (λ found. after found (lead_at units index)) e
    ∙ if_not_leb 0x8000 lead (final_at units index lead) (lower_at units index lead) (omega (arith, low))
    ∙ if_not_leb 0x40 lead (valued_at units index lead) (bare_at units index lead) low
    ∙ ap (λ found. after found (λ next. Some (begun next))) opens

node-inverse : (units : List ℕ) (index : ℕ) (a : Arrival) → arrive_at units index ≡ Some a
    → (value : Option ℕ) × (next : Option State) × IsNode units index value next × (arrived value next ≡ a)
node-inverse units index a e =
    let found = after-some (slice_get units index) (lead_at units index) a e in
    let lead : ℕ = found.0 in
    ⊎_elim
    (λ (low : lead < 0x8000).
    let lower = sym (if_not_leb 0x8000 lead (final_at units index lead) (lower_at units index lead) low) ∙ found.2 in
    ⊎_elim
    (λ (plain : lead < 0x40).
    let opens = after-some (opened units lead (index + 1)) (λ next. Some (begun next)) a
    (sym (if_not_leb 0x40 lead (valued_at units index lead) (bare_at units index lead) plain) ∙ lower) in
    (None, Some opens.0, bare index lead opens.0 found.1 plain opens.1, some-same (begun opens.0) a opens.2))
    (λ (high : 0x40 ≤ lead).
    let reads = after-some (intermediate_number units lead (index + 1)) (valued_behind units lead) a
    (sym (if_leb 0x40 lead (valued_at units index lead) (bare_at units index lead) high) ∙ lower) in
    let opens = after-some (opened units (lead % 0x40) reads.0.end) (λ next. Some (passed reads.0.value next)) a reads.2 in
    (Some reads.0.value, Some opens.0, valued index lead reads.0 opens.0 found.1 low high reads.1 opens.1, some-same (passed reads.0.value opens.0) a opens.2))
    (cases_lt lead 0x40))
    (λ (high : 0x8000 ≤ lead).
    let reads = after-some (final_number units (lead - 0x8000) (index + 1)) (λ number. Some (ended number.value)) a
    (sym (if_leb 0x8000 lead (final_at units index lead) (lower_at units index lead) high) ∙ found.2) in
    (Some reads.0.value, None, final index lead reads.0 found.1 high reads.1, some-same (ended reads.0.value) a reads.2))
    (cases_lt lead 0x8000)

valued-says : (units : List ℕ) (value : ℕ) (next : Option State) → Says units (Some (arrived (Some value) next)) [] (cast_signed w32 value)
valued-says units value None = inl (refl, refl)
valued-says units value (Some next) = inl (refl, refl)

going-says : (units : List ℕ) (value : Option ℕ) (next : State) (key : List ℕ) (number : ℤ) → MapsKey units (at_state next) key number
    → Says units (Some (arrived value (Some next))) key number
going-says units None next key number rest = inr rest
going-says units (Some value) next key number rest = inr rest

pub node_forth : (units : List ℕ) {index : ℕ} {key : List ℕ} {number : ℤ} → MapsKey units (at_node index) key number → Says units (arrive_at units index) key number
node_forth units (ends index value next node) =
    subst (λ o. Says units o [] (cast_signed w32 value)) (sym (node-is units node)) (valued-says units value next)
node_forth units (goes_on index value next key number node rest) =
    subst (λ o. Says units o key number) (sym (node-is units node)) (going-says units value next key number rest)

pub ends-here : (units : List ℕ) (index value : ℕ) (next : Option State) (key : List ℕ) (number : ℤ) → IsNode units index (Some value) next
    → (key ≡ []) × (cast_signed w32 value ≡ number) → MapsKey units (at_node index) key number
ends-here units index value next key number node h =
    subst (λ key. MapsKey units (at_node index) key number) (sym h.0)
    (subst (λ number. MapsKey units (at_node index) [] number) h.1 (ends index value next node))

arrived-spells : (units : List ℕ) (index : ℕ) (value : Option ℕ) (next : Option State) (key : List ℕ) (number : ℤ) → IsNode units index value next
    → Says units (Some (arrived value next)) key number → MapsKey units (at_node index) key number
arrived-spells units index (Some value) None key number node h =
    ⊎_elim (λ here. ends-here units index value None key number node here) (λ rest. absurd (stopped_none units key number rest)) h
arrived-spells units index (Some value) (Some next) key number node h =
    ⊎_elim (λ here. ends-here units index value (Some next) key number node here) (λ rest. goes_on index (Some value) next key number node rest) h
arrived-spells units index None (Some next) key number node h =
    ⊎_elim (λ here. absurd here.1) (λ rest. goes_on index None next key number node rest) h
arrived-spells units index None None key number node h = elim node [ ]

node_back : (units : List ℕ) (index : ℕ) (key : List ℕ) (number : ℤ) (a : Arrival) → arrive_at units index ≡ Some a → Says units (Some a) key number
    → MapsKey units (at_node index) key number
node_back units index key number a e h =
    let node = node-inverse units index a e in
    arrived-spells units index node.0 node.1 key number node.2 (subst (λ a. Says units (Some a) key number) (sym node.3) h)

after_after : {A B C : Type 0} (o : Option A) (f : A → Option B) (g : B → Option C) → after o (λ x. after (f x) g) ≡ after (after o f) g
after_after None f g = refl
after_after (Some x) f g = refl

pub branched-is : (units : List ℕ) (branch : Branch) (unit : ℕ) → branched units branch unit ≡ after (after (small_part units unit branch.count branch) (found_in units unit)) (reached units)
branched-is units branch unit = after_after (small_part units unit branch.count branch) (found_in units unit) (reached units)

led : (units : List ℕ) (branch : Branch) (unit : ℕ) (target : Target) → Leads units branch unit target → branched units branch unit ≡ reached units target
led units branch unit target leads =
    branched-is units branch unit ∙ ap (λ found. after found (reached units)) (leads_complete units leads branch.count (omega arith))

abbrev pub run_at : List ℕ → Match → Option Arrival
run_at units run = if leb run.left 1 then arrive_at units (run.index + 1)
    else Some (begun (state.Match (record { left = run.left - 1; index = run.index + 1 })))

abbrev pub match_at : List ℕ → Match → ℕ → ℕ → Option Arrival
match_at units run unit expected = if expected == unit then run_at units run else None

run-is : (units : List ℕ) (run : Match) (unit : ℕ) → slice_get units run.index ≡ Some unit → matched units run unit ≡ run_at units run
run-is units run unit e = ap (λ found. after found (match_at units run unit)) e ∙ if_eq unit unit (run_at units run) None refl

pub step_forth : (units : List ℕ) {next : State} {unit : ℕ} {key : List ℕ} {number : ℤ} → MapsKey units (at_state next) (unit ∷ key) number → Says units (step units next unit) key number
step_forth units (run_on run unit key number e more rest) =
    let go : State = state.Match (record { left = run.left - 1; index = run.index + 1 }) in
    subst (λ o. Says units o key number)
    (sym (run-is units run unit e ∙ if_not_leb run.left 1 (arrive_at units (run.index + 1)) (Some (begun go)) more)) (inr rest)
step_forth units (run_out run unit key number e few rest) =
    let go : State = state.Match (record { left = run.left - 1; index = run.index + 1 }) in
    subst (λ o. Says units o key number)
    (sym (run-is units run unit e ∙ if_leb run.left 1 (arrive_at units (run.index + 1)) (Some (begun go)) few)) (node_forth units rest)
step_forth units (branch_value branch unit value leads) =
    subst (λ o. Says units o [] (cast_signed w32 value)) (sym (led units branch unit (Value value) leads)) (inl (refl, refl))
step_forth units (branch_node branch unit index key number leads rest) =
    subst (λ o. Says units o key number) (sym (led units branch unit (Node index) leads)) (node_forth units rest)

says-some : (units : List ℕ) (o : Option Arrival) (key : List ℕ) (number : ℤ) → Says units o key number → (a : Arrival) × (o ≡ Some a) × Says units (Some a) key number
says-some units None key number h = absurd h
says-some units (Some a) key number h = (a, refl, h)

match_back : (units : List ℕ) (run : Match) (unit : ℕ) (key : List ℕ) (number : ℤ) (a : Arrival) → matched units run unit ≡ Some a → Says units (Some a) key number
    → MapsKey units (at_state (state.Match run)) (unit ∷ key) number
match_back units run unit key number a e h =
    let go : State = state.Match (record { left = run.left - 1; index = run.index + 1 }) in
    let found = after-some (slice_get units run.index) (match_at units run unit) a e in
    ⊎_elim
    (λ (same : found.0 ≡ unit).
    let is : slice_get units run.index ≡ Some unit = found.1 ∙ ap Some same in
    let runs : run_at units run ≡ Some a = sym (run-is units run unit is) ∙ e in
    ⊎_elim
    (λ (more : 1 < run.left).
    let begins : begun go ≡ a = some-same (begun go) a (sym (if_not_leb run.left 1 (arrive_at units (run.index + 1)) (Some (begun go)) more) ∙ runs) in
    ⊎_elim (λ here. absurd here.1) (λ rest. run_on run unit key number is more rest)
    (subst (λ a. Says units (Some a) key number) (sym begins) h))
    (λ (few : run.left ≤ 1).
    run_out run unit key number is few (node_back units (run.index + 1) key number a
    (sym (if_leb run.left 1 (arrive_at units (run.index + 1)) (Some (begun go)) few) ∙ runs) h))
    (cases_lt 1 run.left))
    (λ (other : found.0 ≢ unit). absurd (none-some a (sym (if_not_eq found.0 unit (run_at units run) None other) ∙ found.2)))
    (cases_eq found.0 unit)

target_back : (units : List ℕ) (branch : Branch) (unit : ℕ) (target : Target) (key : List ℕ) (number : ℤ) (a : Arrival) → Leads units branch unit target
    → reached units target ≡ Some a → Says units (Some a) key number → MapsKey units (at_state (state.Branch branch)) (unit ∷ key) number
target_back units branch unit (Value value) key number a leads e h =
    ⊎_elim
    (λ here. subst (λ key. MapsKey units (at_state (state.Branch branch)) (unit ∷ key) number) (sym here.0)
    (subst (λ number. MapsKey units (at_state (state.Branch branch)) (unit ∷ []) number) here.1 (branch_value branch unit value leads)))
    (λ rest. absurd (stopped_none units key number rest))
    (subst (λ a. Says units (Some a) key number) (sym (some-same (ended value) a e)) h)
target_back units branch unit (Node index) key number a leads e h = branch_node branch unit index key number leads (node_back units index key number a e h)

branch_back : (units : List ℕ) (branch : Branch) (unit : ℕ) (key : List ℕ) (number : ℤ) (a : Arrival) → branched units branch unit ≡ Some a → Says units (Some a) key number
    → MapsKey units (at_state (state.Branch branch)) (unit ∷ key) number
branch_back units branch unit key number a e h =
    let found = after-some (after (small_part units unit branch.count branch) (found_in units unit)) (reached units) a (sym (branched-is units branch unit) ∙ e) in
    target_back units branch unit found.0 key number a (leads_sound units unit branch.count branch found.0 found.1) found.2 h

pub step_back : (units : List ℕ) (next : State) (unit : ℕ) (key : List ℕ) (number : ℤ) → Says units (step units next unit) key number → MapsKey units (at_state next) (unit ∷ key) number
step_back units (state.Stopped) unit key number h = absurd h
step_back units (state.Match run) unit key number h =
    let some = says-some units (matched units run unit) key number h in
    match_back units run unit key number some.0 some.1 some.2
step_back units (state.Branch branch) unit key number h =
    let some = says-some units (branched units branch unit) key number h in
    branch_back units branch unit key number some.0 some.1 some.2
