-- All that units in the grammar spell is listed, and the list rises.
use Rattle.std.proofs.Common.{◌≡◌, ℕ, ℤ, ◌+◌, ◌-◌, ◌/◌, ◌%◌, ◌<◌, ◌≤◌, ◌++◌, List, [], ◌∷◌, map, slice_get, Option, Some, None, Less, Equal, refl, ap, ◌∙◌, sym, subst, arith, inl, inr, ◌⊎◌, ⊎_elim}
use Rattle.std.specs.Int.{cast_signed, w32}
use Rattle.std.specs.Cmp.{nat_cmp_is}
use Rattle.std.specs.Cmp.Lexicographic.{slice_cmp}
use Rattle.std.specs.List.{AllByRecursion}
use Rattle.std.specs.List.Sorted.{IsStrictlySortedBy}
use Rattle.std.proofs.lemmas.Option.{none-some}
use Rattle.std.specs.Ordering.{nat_cmp, ordering_then}
use Rattle.icu_char16trie.specs.UnitNumbers.{final_number, intermediate_number}
use Rattle.icu_char16trie.specs.UnitSteps.{entry_target, opened}
use Rattle.icu_char16trie.specs.UnitMaps.{at_node, at_state, MapsKey, ends, goes_on, run_on, run_out, branch_value, branch_node, Leads, listed, Lists, IsNode, final, valued, bare}
use Rattle.icu_char16trie.specs.UnitGrammar.{GrammarPart, spot, within, IsSound, sound_end, sound_node, sound_run, sound_run_end, sound_branch, sound_last, sound_value, sound_jump, sound_halves}
use Rattle.icu_char16trie.specs.declared.cells.Number.{Number}
use Rattle.icu_char16trie.specs.declared.node.Branch.{Branch}
use Rattle.icu_char16trie.specs.declared.node.Match.{Match}
use Rattle.icu_char16trie.specs.declared.node.Target.{Target}
use Rattle.icu_char16trie.specs.declared.node.Target.TheVariants.{Value, Node}
use Rattle.icu_char16trie.specs.declared.node.State.{State}
use Rattle.icu_char16trie.specs.declared.node.State.TheVariants as state
use Rattle.icu_char16trie.proofs.Cursors.BranchLemmas.{some-same}
use Rattle.icu_char16trie.proofs.Grammar.SoundLemmas.{fewer, last_target, entry_found, leads_listed, leads_half}
use Rattle.icu_char16trie.specs.UnitPairs.{Has}
use Rattle.icu_char16trie.proofs.Grammar.ListingLemmas.{Pair, behind_unit, with_value, listing, has-left, has-right, has-behind}

-- a node has one value, and one thing follows it
pub node_unique : (units : List ℕ) {index : ℕ} {value other : Option ℕ} {next following : Option State} → IsNode units index value next → IsNode units index other following
    → (value ≡ other) × (next ≡ following)
node_unique units (final index lead number e high reads) (final there lead' number' e' high' reads') =
    let same : lead ≡ lead' = some-same lead lead' (sym e ∙ e') in
    let number-same : number ≡ number' = some-same number number' (sym reads ∙ ap (λ lead. final_number units (lead - 0x8000) (index + 1)) same ∙ reads') in
    (ap (λ (n : Number). Some n.value) number-same, refl)
node_unique units (final index lead number e high reads) (valued there lead' number' next' e' low' high' reads' opens') =
    let same : lead ≡ lead' = some-same lead lead' (sym e ∙ e') in absurd (omega (arith, same, high, low'))
node_unique units (final index lead number e high reads) (bare there lead' next' e' low' opens') =
    let same : lead ≡ lead' = some-same lead lead' (sym e ∙ e') in absurd (omega (arith, same, high, low'))
node_unique units (valued index lead number next e low high reads opens) (final there lead' number' e' high' reads') =
    let same : lead ≡ lead' = some-same lead lead' (sym e ∙ e') in absurd (omega (arith, same, low, high'))
node_unique units (valued index lead number next e low high reads opens) (valued there lead' number' next' e' low' high' reads' opens') =
    let same : lead ≡ lead' = some-same lead lead' (sym e ∙ e') in
    let number-same : number ≡ number' = some-same number number' (sym reads ∙ ap (λ lead. intermediate_number units lead (index + 1)) same ∙ reads') in (
      ap (λ (n : Number). Some n.value) number-same,
      sym opens ∙ ap (λ lead. opened units (lead % 0x40) number.end) same ∙ ap (λ (n : Number). opened units (lead' % 0x40) n.end) number-same ∙ opens',
    )
node_unique units (valued index lead number next e low high reads opens) (bare there lead' next' e' low' opens') =
    let same : lead ≡ lead' = some-same lead lead' (sym e ∙ e') in absurd (omega (arith, same, high, low'))
node_unique units (bare index lead next e low opens) (final there lead' number' e' high' reads') =
    let same : lead ≡ lead' = some-same lead lead' (sym e ∙ e') in absurd (omega (arith, same, low, high'))
node_unique units (bare index lead next e low opens) (valued there lead' number' next' e' low' high' reads' opens') =
    let same : lead ≡ lead' = some-same lead lead' (sym e ∙ e') in absurd (omega (arith, same, low, high'))
node_unique units (bare index lead next e low opens) (bare there lead' next' e' low' opens') =
    let same : lead ≡ lead' = some-same lead lead' (sym e ∙ e') in
    (refl, sym opens ∙ ap (λ lead. opened units lead (index + 1)) same ∙ opens')

-- a key at a node ends there, or goes on after it
abbrev AtNode : List ℕ → Option ℕ → Option State → List ℕ → ℤ → Type 0
AtNode units value next key number =
    (([] ≡ key) × (v : ℕ) × (value ≡ Some v) × (cast_signed w32 v ≡ number))
    ⊎ ((following : State) × (next ≡ Some following) × MapsKey units (at_state following) key number)

at-node : (units : List ℕ) {index : ℕ} {value : Option ℕ} {next : Option State} {key : List ℕ} {number : ℤ} → MapsKey units (at_node index) key number
    → IsNode units index value next → AtNode units value next key number
at-node units (ends index v following node) is = inl (refl, v, (node_unique units is node).0, refl)
at-node units (goes_on index v following key number node rest) is = inr (following, (node_unique units is node).1, rest)

module _ (units : List ℕ) (run : Match) (unit : ℕ) (is : slice_get units run.index ≡ Some unit) where
  run-goes : {key : List ℕ} {number : ℤ} → MapsKey units (at_state (state.Match run)) key number → 1 < run.left
      → (rest : List ℕ) × (key ≡ unit ∷ rest) × MapsKey units (at_state (state.Match (record { left = run.left - 1; index = run.index + 1 }))) rest number
  run-goes (run_on r u key number e more rest) many = (key, ap (λ u. u ∷ key) (some-same u unit (sym e ∙ is)), rest)
  run-goes (run_out r u key number e few rest) many = absurd (omega (arith, few, many))

  run-ends : {key : List ℕ} {number : ℤ} → MapsKey units (at_state (state.Match run)) key number → run.left ≤ 1
      → (rest : List ℕ) × (key ≡ unit ∷ rest) × MapsKey units (at_node (run.index + 1)) rest number
  run-ends (run_on r u key number e more rest) one = absurd (omega (arith, more, one))
  run-ends (run_out r u key number e few rest) one = (key, ap (λ u. u ∷ key) (some-same u unit (sym e ∙ is)), rest)

-- what a unit leads to is listed after it
abbrev Covers : List ℕ → List Pair → ℕ → Target → Type 0
Covers units pairs unit (Value value) = Has pairs (unit ∷ []) (cast_signed w32 value)
Covers units pairs unit (Node index) = (key : List ℕ) (number : ℤ) → MapsKey units (at_node index) key number → Has pairs (unit ∷ key) number

covers-more : (units : List ℕ) (xs ys : List Pair) (unit : ℕ) (target : Target) → ((key : List ℕ) (number : ℤ) → Has xs key number → Has ys key number)
    → Covers units xs unit target → Covers units ys unit target
covers-more units xs ys unit (Value value) f h = f (unit ∷ []) (cast_signed w32 value) h
covers-more units xs ys unit (Node index) f h = λ key number k. f (unit ∷ key) number (h key number k)

covers-spelled : (units : List ℕ) (pairs : List Pair) {branch : Branch} {key : List ℕ} {number : ℤ} → MapsKey units (at_state (state.Branch branch)) key number
    → ((unit : ℕ) (target : Target) → Leads units branch unit target → Covers units pairs unit target) → Has pairs key number
covers-spelled units pairs (branch_value branch unit value leads) f = f unit (Value value) leads
covers-spelled units pairs (branch_node branch unit index key number leads rest) f = f unit (Node index) leads key number rest

-- all that is spelled in a part is listed
abbrev ListsAll : List ℕ → GrammarPart → List Pair → Type 0
ListsAll units (spot s) pairs = (key : List ℕ) (number : ℤ) → MapsKey units s key number → Has pairs key number
ListsAll units (within branch low high) pairs = (unit : ℕ) (target : Target) → Leads units branch unit target → Covers units pairs unit target

valued-listed : (units : List ℕ) (value : Option ℕ) (next : State) (pairs : List Pair) (key : List ℕ) (number : ℤ)
    → ((key : List ℕ) (number : ℤ) → MapsKey units (at_state next) key number → Has pairs key number)
    → AtNode units value (Some next) key number → Has (with_value value pairs) key number
valued-listed units None next pairs key number f h =
    ⊎_elim (λ here. absurd (none-some here.1 here.2)) (λ on. f key number (subst (λ next. MapsKey units (at_state next) key number) (sym (some-same next on.0 on.1)) on.2)) h
valued-listed units (Some value) next pairs key number f h =
    ⊎_elim
    (λ here. inl (here.0, ap (λ v. cast_signed w32 v) (some-same value here.1 here.2) ∙ here.3))
    (λ on. inr (f key number (subst (λ next. MapsKey units (at_state next) key number) (sym (some-same next on.0 on.1)) on.2))) h

pub lists_all : (units : List ℕ) {part : GrammarPart} (s : IsSound units part) → ListsAll units part (listing units s)
unfolding listing
lists_all units (sound_end index value node) = λ key number h.
    ⊎_elim
    (λ here. inl (here.0, ap (λ v. cast_signed w32 v) (some-same value here.1 here.2) ∙ here.3))
    (λ on. absurd (none-some on.0 on.1))
    (at-node units h node)
lists_all units (sound_node index value next node rest) = λ key number h.
    valued-listed units value next (listing units rest) key number (lists_all units rest) (at-node units h node)
lists_all units (sound_run run unit e more rest) = λ key number h.
    let found = run-goes units run unit e h more in
    subst (λ key. Has (behind_unit unit (listing units rest)) key number) (sym found.1)
    (has-behind unit (listing units rest) found.0 number (lists_all units rest found.0 number found.2))
lists_all units (sound_run_end run unit e few rest) = λ key number h.
    let found = run-ends units run unit e h few in
    subst (λ key. Has (behind_unit unit (listing units rest)) key number) (sym found.1)
    (has-behind unit (listing units rest) found.0 number (lists_all units rest found.0 number found.2))
lists_all units (sound_branch branch rest) = λ key number h. covers-spelled units (listing units rest) h (lists_all units rest)
lists_all units (sound_last branch low high unit one e above below rest) = λ other target leads.
    let found = last_target units (leads_listed units leads (omega (arith, one))) (omega (arith, one)) in
    subst (λ target. Covers units (behind_unit unit (listing units rest)) other target) (sym found.1)
    (λ key number h. subst (λ other. Has (behind_unit unit (listing units rest)) (other ∷ key) number) (some-same unit other (sym e ∙ found.0))
    (has-behind unit (listing units rest) key number (lists_all units rest key number h)))
lists_all units (sound_value branch low high value entry more few e to above below rest) = λ other target leads.
    let first : Pair = (entry.unit ∷ [], cast_signed w32 value) in
    ⊎_elim
    (λ (found : (entry.unit ≡ other) × (entry_target units entry ≡ Some target)).
    subst (λ target. Covers units (first ∷ listing units rest) other target) (some-same (Value value) target (sym to ∙ found.1))
    (inl (ap (λ unit. unit ∷ []) found.0, refl)))
    (λ (found : Lists units (branch.count - 1 - 1) entry.number.end other target).
    covers-more units (listing units rest) (first ∷ listing units rest) other target (λ key number h. inr h)
    (lists_all units rest other target (listed (fewer branch entry) other target (omega (arith, few)) found)))
    (entry_found units (leads_listed units leads few) entry (omega (arith, more)) e)
lists_all units (sound_jump branch low high index entry more few e to above below node rest) = λ other target leads.
    let first : List Pair = behind_unit entry.unit (listing units node) in
    ⊎_elim
    (λ (found : (entry.unit ≡ other) × (entry_target units entry ≡ Some target)).
    subst (λ target. Covers units (first ++ listing units rest) other target) (some-same (Node index) target (sym to ∙ found.1))
    (λ key number h. has-left first (listing units rest) (other ∷ key) number
    (subst (λ other. Has first (other ∷ key) number) found.0 (has-behind entry.unit (listing units node) key number (lists_all units node key number h)))))
    (λ (found : Lists units (branch.count - 1 - 1) entry.number.end other target).
    covers-more units (listing units rest) (first ++ listing units rest) other target (has-right first (listing units rest))
    (lists_all units rest other target (listed (fewer branch entry) other target (omega (arith, few)) found)))
    (entry_found units (leads_listed units leads few) entry (omega (arith, more)) e)
lists_all units (sound_halves branch low high middle index jump many e d lands above below first second) = λ other target leads.
    ⊎_elim
    (λ (found : (other < middle) × Leads units (record { count = branch.count / 2; index = index }) other target).
    covers-more units (listing units first) (listing units first ++ listing units second) other target (has-left (listing units first) (listing units second))
    (lists_all units first other target found.1))
    (λ (found : (middle ≤ other) × Leads units (record { count = branch.count - branch.count / 2; index = jump.end }) other target).
    covers-more units (listing units second) (listing units first ++ listing units second) other target (has-right (listing units first) (listing units second))
    (lists_all units second other target found.1))
    (leads_half units middle index jump leads many e d lands)

-- each key begins with such a unit
abbrev Firsts : (ℕ → Type 0) → List Pair → Type 0
Firsts P [] = Unit {0}
Firsts P (pair ∷ rest) = ((unit : ℕ) × (key : List ℕ) × (pair.0 ≡ unit ∷ key) × P unit) × Firsts P rest

firsts-behind : (P : ℕ → Type 0) (unit : ℕ) (xs : List Pair) → P unit → Firsts P (behind_unit unit xs)
firsts-behind P unit [] h = tt
firsts-behind P unit (x ∷ xs) h = ((unit, x.0, refl, h), firsts-behind P unit xs h)

firsts-append : (P : ℕ → Type 0) (xs ys : List Pair) → Firsts P xs → Firsts P ys → Firsts P (xs ++ ys)
firsts-append P [] ys h k = k
firsts-append P (x ∷ xs) ys h k = (h.0, firsts-append P xs ys h.1 k)

firsts-weaker : (P Q : ℕ → Type 0) (xs : List Pair) → ((unit : ℕ) → P unit → Q unit) → Firsts P xs → Firsts Q xs
firsts-weaker P Q [] f h = tt
firsts-weaker P Q (x ∷ xs) f h = ((h.0.0, h.0.1, h.0.2, f h.0.0 h.0.3), firsts-weaker P Q xs f h.1)

abbrev Between : ℕ → ℕ → ℕ → Type 0
Between low high unit = (low ≤ unit) × (unit < high)

abbrev Begins : GrammarPart → List Pair → Type 0
Begins (spot (at_node index)) pairs = Unit {0}
Begins (spot (at_state next)) pairs = Firsts (λ unit. Unit {0}) pairs
Begins (within branch low high) pairs = Firsts (Between low high) pairs

begins : (units : List ℕ) {part : GrammarPart} (s : IsSound units part) → Begins part (listing units s)
unfolding listing
begins units (sound_end index value node) = tt
begins units (sound_node index value next node rest) = tt
begins units (sound_run run unit e more rest) = firsts-behind (λ unit. Unit {0}) unit (listing units rest) tt
begins units (sound_run_end run unit e few rest) = firsts-behind (λ unit. Unit {0}) unit (listing units rest) tt
begins units (sound_branch branch rest) = firsts-weaker (Between 0 0x10000) (λ unit. Unit {0}) (listing units rest) (λ unit h. tt) (begins units rest)
begins units (sound_last branch low high unit one e above below rest) = firsts-behind (Between low high) unit (listing units rest) (above, below)
begins units (sound_value branch low high value entry more few e to above below rest) =
    ((entry.unit, [], refl, (above, below)), firsts-weaker (Between (entry.unit + 1) high) (Between low high) (listing units rest) (λ unit h. (omega (arith, above, h.0), h.1)) (begins units rest))
begins units (sound_jump branch low high index entry more few e to above below node rest) =
    firsts-append (Between low high) (behind_unit entry.unit (listing units node)) (listing units rest)
    (firsts-behind (Between low high) entry.unit (listing units node) (above, below))
    (firsts-weaker (Between (entry.unit + 1) high) (Between low high) (listing units rest) (λ unit h. (omega (arith, above, h.0), h.1)) (begins units rest))
begins units (sound_halves branch low high middle index jump many e d lands above below first second) =
    firsts-append (Between low high) (listing units first) (listing units second)
    (firsts-weaker (Between low middle) (Between low high) (listing units first) (λ unit h. (h.0, omega (arith, h.1, below))) (begins units first))
    (firsts-weaker (Between middle high) (Between low high) (listing units second) (λ unit h. (omega (arith, h.0, above), h.1)) (begins units second))

-- the keys are above the key, and rise
abbrev Above : List ℕ → List Pair → Type 0
Above key [] = Unit {0}
Above key (pair ∷ rest) = (slice_cmp nat_cmp key pair.0 ≡ Less) × Above key rest

abbrev pub Rising : List Pair → Type 0
Rising [] = Unit {0}
Rising (pair ∷ rest) = Above pair.0 rest × Rising rest

equal-cmp : (n : ℕ) → nat_cmp n n ≡ Equal
equal-cmp n = sym (nat_cmp_is n n Equal refl)

less-cmp : (m n : ℕ) → m < n → nat_cmp m n ≡ Less
less-cmp m n h = sym (nat_cmp_is m n Less h)

above-behind : (unit : ℕ) (key : List ℕ) (xs : List Pair) → Above key xs → Above (unit ∷ key) (behind_unit unit xs)
above-behind unit key [] h = tt
above-behind unit key (x ∷ xs) h = (ap (λ o. ordering_then o (slice_cmp nat_cmp key x.0)) (equal-cmp unit) ∙ h.0, above-behind unit key xs h.1)

rising-behind : (unit : ℕ) (xs : List Pair) → Rising xs → Rising (behind_unit unit xs)
rising-behind unit [] h = tt
rising-behind unit (x ∷ xs) h = (above-behind unit x.0 xs h.0, rising-behind unit xs h.1)

above-nil : (xs : List Pair) → Firsts (λ unit. Unit {0}) xs → Above [] xs
above-nil [] h = tt
above-nil (x ∷ xs) h = (ap (λ key. slice_cmp nat_cmp [] key) h.0.2, above-nil xs h.1)

above-first : (unit bound : ℕ) (key : List ℕ) (xs : List Pair) → unit < bound → Firsts (λ other. bound ≤ other) xs → Above (unit ∷ key) xs
above-first unit bound key [] less h = tt
above-first unit bound key (x ∷ xs) less h =
    let below : unit < h.0.0 = omega (arith, less, h.0.3) in (
      ap (λ other. slice_cmp nat_cmp (unit ∷ key) other) h.0.2 ∙ ap (λ o. ordering_then o (slice_cmp nat_cmp key h.0.1)) (less-cmp unit h.0.0 below),
      above-first unit bound key xs less h.1,
    )

above-append : (key : List ℕ) (xs ys : List Pair) → Above key xs → Above key ys → Above key (xs ++ ys)
above-append key [] ys h k = k
above-append key (x ∷ xs) ys h k = (h.0, above-append key xs ys h.1 k)

rising-append : (bound : ℕ) (xs ys : List Pair) → Rising xs → Rising ys → Firsts (λ unit. unit < bound) xs → Firsts (λ unit. bound ≤ unit) ys → Rising (xs ++ ys)
rising-append bound [] ys h k below above = k
rising-append bound (x ∷ xs) ys h k below above = (
  above-append x.0 xs ys h.0 (subst (λ key. Above key ys) (sym below.0.2) (above-first below.0.0 bound below.0.1 ys below.0.3 above)),
  rising-append bound xs ys h.1 k below.1 above,
)

rising-valued : (value : Option ℕ) (pairs : List Pair) → Firsts (λ unit. Unit {0}) pairs → Rising pairs → Rising (with_value value pairs)
rising-valued None pairs h k = k
rising-valued (Some value) pairs h k = (above-nil pairs h, k)

pub rising : (units : List ℕ) {part : GrammarPart} (s : IsSound units part) → Rising (listing units s)
unfolding listing
rising units (sound_end index value node) = (tt, tt)
rising units (sound_node index value next node rest) = rising-valued value (listing units rest) (begins units rest) (rising units rest)
rising units (sound_run run unit e more rest) = rising-behind unit (listing units rest) (rising units rest)
rising units (sound_run_end run unit e few rest) = rising-behind unit (listing units rest) (rising units rest)
rising units (sound_branch branch rest) = rising units rest
rising units (sound_last branch low high unit one e above below rest) = rising-behind unit (listing units rest) (rising units rest)
rising units (sound_value branch low high value entry more few e to above below rest) = (
  above-first entry.unit (entry.unit + 1) [] (listing units rest) (omega arith)
      (firsts-weaker (Between (entry.unit + 1) high) (λ unit. entry.unit + 1 ≤ unit) (listing units rest) (λ unit h. h.0) (begins units rest)),
  rising units rest,
)
rising units (sound_jump branch low high index entry more few e to above below node rest) =
    rising-append (entry.unit + 1) (behind_unit entry.unit (listing units node)) (listing units rest)
    (rising-behind entry.unit (listing units node) (rising units node)) (rising units rest)
    (firsts-behind (λ unit. unit < entry.unit + 1) entry.unit (listing units node) (omega arith))
    (firsts-weaker (Between (entry.unit + 1) high) (λ unit. entry.unit + 1 ≤ unit) (listing units rest) (λ unit h. h.0) (begins units rest))
rising units (sound_halves branch low high middle index jump many e d lands above below first second) =
    rising-append middle (listing units first) (listing units second) (rising units first) (rising units second)
    (firsts-weaker (Between low middle) (λ unit. unit < middle) (listing units first) (λ unit h. h.1) (begins units first))
    (firsts-weaker (Between middle high) (λ unit. middle ≤ unit) (listing units second) (λ unit h. h.0) (begins units second))

above-sorted : (key : List ℕ) (pairs : List Pair) → Above key pairs → AllByRecursion (λ other. slice_cmp nat_cmp key other ≡ Less) (map (λ (pair : Pair). pair.0) pairs)
above-sorted key [] h = tt
above-sorted key (pair ∷ pairs) h = (h.0, above-sorted key pairs h.1)

pub rising_sorted : (pairs : List Pair) → Rising pairs → IsStrictlySortedBy (slice_cmp nat_cmp) (map (λ (pair : Pair). pair.0) pairs)
unfolding IsStrictlySortedBy
rising_sorted [] h = tt
rising_sorted (pair ∷ pairs) h = (above-sorted pair.0 pairs h.0, rising_sorted pairs h.1)
