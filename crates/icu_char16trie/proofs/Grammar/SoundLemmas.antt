-- Units that keep the grammar: each key leads on, and some key is spelled.
use Rattle.std.proofs.Common.{◌≡◌, ℕ, ◌+◌, ◌-◌, ◌/◌, ◌<◌, ◌≤◌, List, slice_get, Some, refl, ◌∙◌, sym, subst, arith, inl, inr, ◌⊎◌, ⊎_elim}
use Rattle.icu_char16trie.specs.UnitNumbers.{delta, landing}
use Rattle.icu_char16trie.specs.UnitSteps.{entry_at, entry_target}
use Rattle.icu_char16trie.specs.UnitMaps.{Lists, last, here, later, Leads, listed, lower, upper, at_node, IsWhole, whole_end, whole_node, whole_run, whole_run_end, whole_branch}
use Rattle.icu_char16trie.specs.UnitGrammar.{GrammarPart, spot, within, IsSound, sound_end, sound_node, sound_run, sound_run_end, sound_branch, sound_last, sound_value, sound_jump, sound_halves}
use Rattle.icu_char16trie.specs.declared.cells.Number.{Number}
use Rattle.icu_char16trie.specs.declared.node.Branch.{Branch}
use Rattle.icu_char16trie.specs.declared.node.Entry.{Entry}
use Rattle.icu_char16trie.specs.declared.node.Target.{Target}
use Rattle.icu_char16trie.specs.declared.node.Target.TheVariants.{Value, Node}
use Rattle.icu_char16trie.proofs.Cursors.BranchLemmas.{some-same}

-- a branch without its first entry
abbrev pub fewer : Branch → Entry → Branch
fewer branch entry = record { count = branch.count - 1; index = entry.number.end }

-- a unit between the bounds leads somewhere
abbrev pub SomeLeads : List ℕ → Branch → ℕ → ℕ → Type 0
SomeLeads units branch low high = (unit : ℕ) × (target : Target) × (low ≤ unit) × (unit < high) × Leads units branch unit target

pub last_leads : (units : List ℕ) (branch : Branch) (unit : ℕ) → branch.count ≤ 1 → slice_get units branch.index ≡ Some unit → Leads units branch unit (Node (branch.index + 1))
last_leads units branch unit one e =
    listed branch unit (Node (branch.index + 1)) (omega (arith, one))
    (subst (λ entries. Lists units entries branch.index unit (Node (branch.index + 1))) (omega (arith, one)) (last branch.index unit e))

pub entry_leads : (units : List ℕ) (branch : Branch) (entry : Entry) (target : Target) → 1 < branch.count → branch.count ≤ 5
    → entry_at units branch.index ≡ Some entry → entry_target units entry ≡ Some target → Leads units branch entry.unit target
entry_leads units branch entry target more few e to =
    listed branch entry.unit target few
    (subst (λ entries. Lists units entries branch.index entry.unit target) (omega (arith, more)) (here (branch.count - 2) branch.index entry.unit entry target e refl to))

pub some_leads : (units : List ℕ) {branch : Branch} {low high : ℕ} → IsSound units (within branch low high) → SomeLeads units branch low high
some_leads units (sound_last branch low high unit one e above below rest) = (unit, Node (branch.index + 1), above, below, last_leads units branch unit one e)
some_leads units (sound_value branch low high value entry more few e to above below rest) =
    (entry.unit, Value value, above, below, entry_leads units branch entry (Value value) more few e to)
some_leads units (sound_jump branch low high index entry more few e to above below node rest) =
    (entry.unit, Node index, above, below, entry_leads units branch entry (Node index) more few e to)
some_leads units (sound_halves branch low high middle index jump many e d lands above below first second) =
    let found = some_leads units first in (
      found.0,
      found.1,
      found.2,
      omega (arith, found.3, below),
      lower branch found.0 middle index jump found.1 many e d found.3 lands found.4,
    )

pub last_target : (units : List ℕ) {entries index unit : ℕ} {target : Target} → Lists units entries index unit target → entries ≡ 0
    → (slice_get units index ≡ Some unit) × (target ≡ Node (index + 1))
last_target units (last index unit e) none = (e, refl)
last_target units (here entries index unit entry target e same to) none = absurd (omega (arith, none))
last_target units (later entries index unit entry target e other rest) none = absurd (omega (arith, none))

pub entry_found : (units : List ℕ) {entries index unit : ℕ} {target : Target} → Lists units entries index unit target → (entry : Entry) → 0 < entries
    → entry_at units index ≡ Some entry → ((entry.unit ≡ unit) × (entry_target units entry ≡ Some target)) ⊎ Lists units (entries - 1) entry.number.end unit target
entry_found units (last index unit e) entry some is = absurd (omega (arith, some))
entry_found units (here entries index unit found target e same to) entry some is =
    let equal : found ≡ entry = some-same found entry (sym e ∙ is) in
    inl (subst (λ entry. (entry.unit ≡ unit) × (entry_target units entry ≡ Some target)) equal (same, to))
entry_found units (later entries index unit found target e other rest) entry some is =
    let equal : found ≡ entry = some-same found entry (sym e ∙ is) in
    inr (subst (λ left. Lists units left entry.number.end unit target) (omega arith)
    (subst (λ entry. Lists units entries entry.number.end unit target) equal rest))

pub leads_listed : (units : List ℕ) {branch : Branch} {unit : ℕ} {target : Target} → Leads units branch unit target → branch.count ≤ 5
    → Lists units (branch.count - 1) branch.index unit target
leads_listed units (listed branch unit target few among) small = among
leads_listed units (lower branch unit middle index jump target many e d less lands rest) small = absurd (omega (arith, many, small))
leads_listed units (upper branch unit middle jump target many e d more rest) small = absurd (omega (arith, many, small))

-- the half of a branch in which a unit leads somewhere
module _ (units : List ℕ) (middle index : ℕ) (jump : Number) where
  abbrev pub InHalf : Branch → ℕ → Target → Type 0
  InHalf branch unit target =
      ((unit < middle) × Leads units (record { count = branch.count / 2; index = index }) unit target)
      ⊎ ((middle ≤ unit) × Leads units (record { count = branch.count - branch.count / 2; index = jump.end }) unit target)

  pub leads_half : {branch : Branch} {unit : ℕ} {target : Target} → Leads units branch unit target → 5 < branch.count
      → slice_get units branch.index ≡ Some middle → delta units (branch.index + 1) ≡ Some jump → landing units jump ≡ Some index → InHalf branch unit target
  leads_half (listed branch unit target few among) big is reads lands = absurd (omega (arith, few, big))
  leads_half (lower branch unit found at gap target many e d less to rest) big is reads lands =
      let same : found ≡ middle = some-same found middle (sym e ∙ is) in
      let jumps : gap ≡ jump = some-same gap jump (sym d ∙ reads) in
      let indices : at ≡ index = some-same at index (sym to ∙ subst (λ gap. landing units gap ≡ Some index) (sym jumps) lands) in
      inl (subst (λ found. unit < found) same less, subst (λ at. Leads units (record { count = branch.count / 2; index = at }) unit target) indices rest)
  leads_half (upper branch unit found gap target many e d more rest) big is reads lands =
      let same : found ≡ middle = some-same found middle (sym e ∙ is) in
      let jumps : gap ≡ jump = some-same gap jump (sym d ∙ reads) in
      inr (subst (λ found. found ≤ unit) same more, subst (λ gap. Leads units (record { count = branch.count - branch.count / 2; index = gap.end }) unit target) jumps rest)

-- each key that can be begun there leads on
abbrev pub LeadsOn : List ℕ → GrammarPart → Type 0
LeadsOn units (spot s) = IsWhole units s
LeadsOn units (within branch low high) = (other index : ℕ) → Leads units branch other (Node index) → IsWhole units (at_node index)

node-same : (a b : ℕ) → Node a ≡ Node b → a ≡ b
node-same a b e = cc

value-node : (a b : ℕ) → Value a ≡ Node b → ⊥
value-node a b e = cc

pub leads_on : (units : List ℕ) {part : GrammarPart} → IsSound units part → LeadsOn units part
leads_on units (sound_end index value node) = whole_end index value node
leads_on units (sound_node index value next node rest) = whole_node index value next node (leads_on units rest)
leads_on units (sound_run run unit e more rest) = whole_run run unit e more (leads_on units rest)
leads_on units (sound_run_end run unit e few rest) = whole_run_end run unit e few (leads_on units rest)
leads_on units (sound_branch branch rest) =
    let found = some_leads units rest in
    whole_branch branch found.0 found.1 found.4 (leads_on units rest)
leads_on units (sound_last branch low high unit one e above below rest) = λ other index leads.
    let found = last_target units (leads_listed units leads (omega (arith, one))) (omega (arith, one)) in
    subst (λ index. IsWhole units (at_node index)) (node-same (branch.index + 1) index (sym found.1)) (leads_on units rest)
leads_on units (sound_value branch low high value entry more few e to above below rest) = λ other index leads.
    ⊎_elim
    (λ (found : (entry.unit ≡ other) × (entry_target units entry ≡ Some (Node index))). absurd (value-node value index (some-same (Value value) (Node index) (sym to ∙ found.1))))
    (λ (found : Lists units (branch.count - 1 - 1) entry.number.end other (Node index)). leads_on units rest other index (listed (fewer branch entry) other (Node index) (omega (arith, few)) found))
    (entry_found units (leads_listed units leads few) entry (omega (arith, more)) e)
leads_on units (sound_jump branch low high target entry more few e to above below node rest) = λ other index leads.
    ⊎_elim
    (λ (found : (entry.unit ≡ other) × (entry_target units entry ≡ Some (Node index))).
    subst (λ index. IsWhole units (at_node index)) (node-same target index (some-same (Node target) (Node index) (sym to ∙ found.1))) (leads_on units node))
    (λ (found : Lists units (branch.count - 1 - 1) entry.number.end other (Node index)). leads_on units rest other index (listed (fewer branch entry) other (Node index) (omega (arith, few)) found))
    (entry_found units (leads_listed units leads few) entry (omega (arith, more)) e)
leads_on units (sound_halves branch low high middle target jump many e d lands above below first second) = λ other index leads.
    ⊎_elim
    (λ (found : (other < middle) × Leads units (record { count = branch.count / 2; index = target }) other (Node index)). leads_on units first other index found.1)
    (λ (found : (middle ≤ other) × Leads units (record { count = branch.count - branch.count / 2; index = jump.end }) other (Node index)). leads_on units second other index found.1)
    (leads_half units middle target jump leads many e d lands)
