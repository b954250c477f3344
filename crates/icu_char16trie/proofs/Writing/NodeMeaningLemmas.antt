-- What units mean, and that it is what was laid in them: nodes and what follows their types.
use Rattle.std.proofs.Common.{◌≡◌, ℕ, ℤ, ◌+◌, ◌-◌, ◌<◌, ◌≤◌, ◌⊎◌, ◌==◌, if◌then◌else◌, List, [], ◌∷◌, ◌++◌, length, drop, slice_get, Option, Some, None, refl, ap, ◌∙◌, sym, subst, arith, inl, inr, ⊎_elim}
use Rattle.std.specs.Int.{cast_signed, w32}
use Rattle.icu_char16trie.specs.UnitNumbers.{after, final_number}
use Rattle.icu_char16trie.specs.UnitSteps.{opened}
use Rattle.icu_char16trie.specs.UnitMaps.{Leads, IsNode, final, valued, bare, Spot, at_node, at_state, MapsKey, goes_on, run_on, run_out, branch_value, branch_node, IsWhole, whole_end, whole_node, whole_run, whole_run_end, whole_branch}
use Rattle.icu_char16trie.specs.UnitGrammar.{IsSound, spot, sound_end, sound_node, sound_run, sound_run_end, sound_branch}
use Rattle.icu_char16trie.specs.UnitGrammar as grammar
use Rattle.icu_char16trie.specs.UnitNumberForms.{number_form}
use Rattle.icu_char16trie.specs.UnitPairs.{prefixed, spread, Has}
use Rattle.icu_char16trie.specs.declared.cells.Number.{Number}
use Rattle.icu_char16trie.specs.declared.node.Branch.{Branch}
use Rattle.icu_char16trie.specs.declared.node.Match.{Match}
use Rattle.icu_char16trie.specs.declared.node.Target.{Target}
use Rattle.icu_char16trie.specs.declared.node.Target.TheVariants.{Value, Node}
use Rattle.icu_char16trie.specs.declared.node.State.{State}
use Rattle.icu_char16trie.specs.declared.node.State.TheVariants as state
use Rattle.icu_char16trie.proofs.Cursors.SearchLemmas.{if_leb, if_not_leb, if_not_eq}
use Rattle.icu_char16trie.proofs.Cursors.BranchLemmas.{some-same}
use Rattle.icu_char16trie.proofs.Cursors.StepLemmas.{Says, node-is, node_forth, ends-here, stopped_none}
use Rattle.icu_char16trie.proofs.Pairs.SortedPairLemmas.{prefixed_more}
use Rattle.icu_char16trie.proofs.Writing.NumberFormLemmas.{unit_at, behind_unit, reads_number, ReadsIntermediate}

-- from the spot the units spell these pairs, whole and in the grammar
pub record SpotMeans (units : List ℕ) (from : Spot) (pairs : List (List ℕ × ℤ)) : Type 0 where
  pub spelled : (key : List ℕ) (number : ℤ) → MapsKey units from key number → Has pairs key number
  pub spells : (key : List ℕ) (number : ℤ) → Has pairs key number → MapsKey units from key number
  pub whole : IsWhole units from
  pub sound : IsSound units (spot from)

-- what follows the type of a node
pub record FollowsMeans (units : List ℕ) (index kind : ℕ) (pairs : List (List ℕ × ℤ)) : Type 0 where
  pub next : State
  pub opens : opened units kind index ≡ Some next
  pub means : SpotMeans units (at_state next) pairs

-- a branch unit leads to these pairs
abbrev pub TargetMeans : List ℕ → Target → List (List ℕ × ℤ) → Type 0
TargetMeans units (Value value) pairs = pairs ≡ ([], cast_signed w32 value) ∷ []
TargetMeans units (Node index) pairs = SpotMeans units (at_node index) pairs

-- the group is among these
abbrev pub HasGroup : List (ℕ × List (List ℕ × ℤ)) → ℕ → List (List ℕ × ℤ) → Type 0
HasGroup [] unit pairs = ⊥
HasGroup (group ∷ groups) unit pairs = ((group.0 ≡ unit) × (group.1 ≡ pairs)) ⊎ HasGroup groups unit pairs

-- a branch whose units lead to what the groups say
pub record WithinMeans (units : List ℕ) (branch : Branch) (low high : ℕ) (groups : List (ℕ × List (List ℕ × ℤ))) : Type 0 where
  pub leads : (unit : ℕ) (target : Target) → Leads units branch unit target → (pairs : List (List ℕ × ℤ)) × HasGroup groups unit pairs × TargetMeans units target pairs
  pub leads_to : (unit : ℕ) (pairs : List (List ℕ × ℤ)) → HasGroup groups unit pairs → (target : Target) × Leads units branch unit target × TargetMeans units target pairs
  pub bounds : (unit : ℕ) (pairs : List (List ℕ × ℤ)) → HasGroup groups unit pairs → (low ≤ unit) × (unit < high)
  pub some : 0 < length groups
  pub sound : IsSound units (grammar.within branch low high)

pub final_means : (units : List ℕ) (index number : ℕ) (rest : List ℕ) → drop index units ≡ number_form 0x8000 number ++ rest
    → SpotMeans units (at_node index) (([], cast_signed w32 number) ∷ [])
final_means units index number rest e =
    let r = reads_number units index 0x8000 number rest e in
    let value : Number = record { value = number; end = r.end } in
    let lead : 0x8000 + r.lead - 0x8000 ≡ r.lead = omega arith in
    let node : IsNode units index (Some number) None = final index (0x8000 + r.lead) value r.at (omega arith)
    (ap (λ lead. final_number units lead (index + 1)) lead ∙ r.reads) in
    record {
      spelled = λ key n h. ⊎_elim (λ here. inl (sym here.0, here.1)) (λ rest. absurd (stopped_none units key n rest))
          (subst (λ o. Says units o key n) (node-is units node) (node_forth units h));
      spells = λ key n h. ⊎_elim (λ here. ends-here units index number None key n node (sym here.0, here.1)) (λ none. absurd none) h;
      whole = whole_end index number node;
      sound = sound_end index number node;
    }

pub valued_means : (units : List ℕ) (index kind number : ℕ) (rest : List ℕ) (pairs : List (List ℕ × ℤ)) (reads : ReadsIntermediate units index kind number rest)
    → FollowsMeans units reads.end kind pairs → SpotMeans units (at_node index) (([], cast_signed w32 number) ∷ pairs)
valued_means units index kind number rest pairs r f =
    let value : Number = record { value = number; end = r.end } in
    let node : IsNode units index (Some number) (Some f.next) = valued index r.lead value f.next r.at r.low r.high r.reads
    (ap (λ kind. opened units kind r.end) r.of ∙ f.opens) in
    record {
      spelled = λ key n h. ⊎_elim (λ here. inl (sym here.0, here.1)) (λ rest. inr (f.means.spelled key n rest))
          (subst (λ o. Says units o key n) (node-is units node) (node_forth units h));
      spells = λ key n h. ⊎_elim (λ here. ends-here units index number (Some f.next) key n node (sym here.0, here.1))
          (λ rest. goes_on index (Some number) f.next key n node (f.means.spells key n rest)) h;
      whole = whole_node index (Some number) f.next node f.means.whole;
      sound = sound_node index (Some number) f.next node f.means.sound;
    }

pub bare_node : (units : List ℕ) (index kind : ℕ) (rest : List ℕ) (pairs : List (List ℕ × ℤ)) → drop index units ≡ kind ∷ rest → kind < 0x40
    → (f : FollowsMeans units (index + 1) kind pairs) → IsNode units index None (Some f.next)
bare_node units index kind rest pairs e low f = bare index kind f.next (unit_at units index kind rest e) low f.opens

pub bare_means : (units : List ℕ) (index kind : ℕ) (rest : List ℕ) (pairs : List (List ℕ × ℤ)) → drop index units ≡ kind ∷ rest → kind < 0x40
    → FollowsMeans units (index + 1) kind pairs → SpotMeans units (at_node index) pairs
bare_means units index kind rest pairs e low f =
    let node : IsNode units index None (Some f.next) = bare_node units index kind rest pairs e low f in
    record {
      spelled = λ key n h. ⊎_elim (λ here. absurd here.1) (λ rest. f.means.spelled key n rest)
          (subst (λ o. Says units o key n) (node-is units node) (node_forth units h));
      spells = λ key n h. goes_on index None f.next key n node (f.means.spells key n h);
      whole = whole_node index None f.next node f.means.whole;
      sound = sound_node index None f.next node f.means.sound;
    }

-- how a key goes on after a node
abbrev TargetSpells : List ℕ → Target → List ℕ → ℤ → Type 0
TargetSpells units (Value value) rest number = (rest ≡ []) × (cast_signed w32 value ≡ number)
TargetSpells units (Node index) rest number = MapsKey units (at_node index) rest number

abbrev Behind : List ℕ → State → List ℕ → ℤ → Type 0
Behind units (state.Stopped) key number = ⊥
Behind units (state.Match run) key number = (unit : ℕ) × (rest : List ℕ) × (key ≡ unit ∷ rest) × (slice_get units run.index ≡ Some unit)
    × (((1 < run.left) × MapsKey units (at_state (state.Match (record { left = run.left - 1; index = run.index + 1 }))) rest number)
    ⊎ ((run.left ≤ 1) × MapsKey units (at_node (run.index + 1)) rest number))
Behind units (state.Branch branch) key number = (unit : ℕ) × (rest : List ℕ) × (target : Target) × (key ≡ unit ∷ rest) × Leads units branch unit target × TargetSpells units target rest number

behind_cases : (units : List ℕ) {next : State} {key : List ℕ} {number : ℤ} → MapsKey units (at_state next) key number → Behind units next key number
behind_cases units (run_on run unit key number e more rest) = (unit, key, refl, e, inl (more, rest))
behind_cases units (run_out run unit key number e few rest) = (unit, key, refl, e, inr (few, rest))
behind_cases units (branch_value branch unit value leads) = (unit, [], Value value, refl, leads, (refl, refl))
behind_cases units (branch_node branch unit index key number leads rest) = (unit, key, Node index, refl, leads, rest)

has_one : (unit : ℕ) (pairs : List (List ℕ × ℤ)) (key : List ℕ) (number : ℤ) → Has pairs key number → Has (prefixed (unit ∷ []) pairs) (unit ∷ key) number
has_one unit [] key number h = h
has_one unit (pair ∷ pairs) key number h =
    ⊎_elim (λ here. inl (ap (λ key. unit ∷ key) here.0, here.1)) (λ later. inr (has_one unit pairs key number later)) h

one_has : (unit : ℕ) (pairs : List (List ℕ × ℤ)) (key : List ℕ) (number : ℤ) → Has (prefixed (unit ∷ []) pairs) key number → (rest : List ℕ) × (key ≡ unit ∷ rest) × Has pairs rest number
one_has unit [] key number h = absurd h
one_has unit (pair ∷ pairs) key number h =
    ⊎_elim (λ here. (pair.0, sym here.0, inl (refl, here.1)))
    (λ later. let r = one_has unit pairs key number later in (r.0, r.1, inr r.2)) h

has_key : (pairs : List (List ℕ × ℤ)) (key other : List ℕ) (number : ℤ) → key ≡ other → Has pairs key number → Has pairs other number
has_key pairs key other number e h = subst (λ key. Has pairs key number) e h

module _ (units : List ℕ) (index left unit : ℕ) (rest : List ℕ) (pairs : List (List ℕ × ℤ)) (e : drop index units ≡ unit ∷ rest) where
  run_last : left ≡ 1 → SpotMeans units (at_node (index + 1)) pairs → SpotMeans units (at_state (state.Match (record { left = left; index = index }))) (prefixed (unit ∷ []) pairs)
  run_last one means =
      let run : Match = record { left = left; index = index } in
      let at : slice_get units index ≡ Some unit = unit_at units index unit rest e in
      let few : left ≤ 1 = omega (arith, one) in
      record {
        spelled = λ key n h.
            let c = behind_cases units h in
            let same : unit ≡ c.0 = some-same unit c.0 (sym at ∙ c.3) in
            ⊎_elim (λ more. absurd (omega (arith, more.0, one)))
            (λ out. has_key (prefixed (unit ∷ []) pairs) (unit ∷ c.1) key n (ap (λ unit. unit ∷ c.1) same ∙ sym c.2) (has_one unit pairs c.1 n (means.spelled c.1 n out.1))) c.4;
        spells = λ key n h.
            let r = one_has unit pairs key n h in
            subst (λ key. MapsKey units (at_state (state.Match run)) key n) (sym r.1) (run_out run unit r.0 n at few (means.spells r.0 n r.2));
        whole = whole_run_end run unit at few means.whole;
        sound = sound_run_end run unit at few means.sound;
      }

  run_first : 1 < left → SpotMeans units (at_state (state.Match (record { left = left - 1; index = index + 1 }))) pairs
      → SpotMeans units (at_state (state.Match (record { left = left; index = index }))) (prefixed (unit ∷ []) pairs)
  run_first many means =
      let run : Match = record { left = left; index = index } in
      let at : slice_get units index ≡ Some unit = unit_at units index unit rest e in
      record {
        spelled = λ key n h.
            let c = behind_cases units h in
            let same : unit ≡ c.0 = some-same unit c.0 (sym at ∙ c.3) in
            ⊎_elim (λ more. has_key (prefixed (unit ∷ []) pairs) (unit ∷ c.1) key n (ap (λ unit. unit ∷ c.1) same ∙ sym c.2) (has_one unit pairs c.1 n (means.spelled c.1 n more.1)))
            (λ out. absurd (omega (arith, out.0, many))) c.4;
        spells = λ key n h.
            let r = one_has unit pairs key n h in
            subst (λ key. MapsKey units (at_state (state.Match run)) key n) (sym r.1) (run_on run unit r.0 n at many (means.spells r.0 n r.2));
        whole = whole_run run unit at many means.whole;
        sound = sound_run run unit at many means.sound;
      }

run_means : (run : List ℕ) (unit : ℕ) (units : List ℕ) (index left : ℕ) (rest : List ℕ) (pairs : List (List ℕ × ℤ)) → left ≡ length run + 1 → drop index units ≡ unit ∷ (run ++ rest)
    → ((at : ℕ) → drop at units ≡ rest → SpotMeans units (at_node at) pairs)
    → SpotMeans units (at_state (state.Match (record { left = left; index = index }))) (prefixed (unit ∷ run) pairs)
run_means [] unit units index left rest pairs l e means =
    run_last units index left unit rest pairs e (omega (arith, l)) (means (index + 1) (behind_unit units index unit rest e))
run_means (second ∷ run) unit units index left rest pairs l e means =
    subst (λ pairs. SpotMeans units (at_state (state.Match (record { left = left; index = index }))) pairs) (sym (prefixed_more unit (second ∷ run) pairs))
    (run_first units index left unit (second ∷ (run ++ rest)) (prefixed (second ∷ run) pairs) e (omega (arith, l))
    (run_means run second units (index + 1) (left - 1) rest pairs (omega (arith, l)) (behind_unit units index unit (second ∷ (run ++ rest)) e) means))

pub run_follows : (units : List ℕ) (index : ℕ) (run rest : List ℕ) (pairs : List (List ℕ × ℤ)) → 0 < length run → drop index units ≡ run ++ rest
    → ((at : ℕ) → drop at units ≡ rest → SpotMeans units (at_node at) pairs) → FollowsMeans units index (0x2f + length run) (prefixed run pairs)
run_follows units index [] rest pairs some e means = absurd (omega (arith, some))
run_follows units index (unit ∷ run) rest pairs some e means =
    let kind : ℕ = 0x2f + length (unit ∷ run) in
    record {
      next = state.Match (record { left = kind - 0x2f; index = index });
      opens = if_leb 0x30 kind (Some (state.Match (record { left = kind - 0x2f; index = index })))
          (if kind == 0 then after (slice_get units index) (λ last. Some (state.Branch (record { count = last + 1; index = index + 1 }))) else Some (state.Branch (record { count = kind + 1; index = index }))) (omega arith);
      means = run_means run unit units index (kind - 0x2f) rest pairs (omega arith) e means;
    }

has_left : (xs ys : List (List ℕ × ℤ)) (key : List ℕ) (number : ℤ) → Has xs key number → Has (xs ++ ys) key number
has_left [] ys key number h = absurd h
has_left (x ∷ xs) ys key number h = ⊎_elim (λ here. inl here) (λ later. inr (has_left xs ys key number later)) h

has_right : (xs ys : List (List ℕ × ℤ)) (key : List ℕ) (number : ℤ) → Has ys key number → Has (xs ++ ys) key number
has_right [] ys key number h = h
has_right (x ∷ xs) ys key number h = inr (has_right xs ys key number h)

has_either : (xs ys : List (List ℕ × ℤ)) (key : List ℕ) (number : ℤ) → Has (xs ++ ys) key number → Has xs key number ⊎ Has ys key number
has_either [] ys key number h = inr h
has_either (x ∷ xs) ys key number h =
    ⊎_elim (λ here. inl (inl here)) (λ later. ⊎_elim (λ left. inl (inr left)) (λ right. inr right) (has_either xs ys key number later)) h

has_spread : (groups : List (ℕ × List (List ℕ × ℤ))) (unit : ℕ) (pairs : List (List ℕ × ℤ)) (key : List ℕ) (number : ℤ) → HasGroup groups unit pairs → Has pairs key number
    → Has (spread groups) (unit ∷ key) number
has_spread [] unit pairs key number g h = absurd g
has_spread (group ∷ groups) unit pairs key number g h =
    ⊎_elim
    (λ here. has_left (prefixed (group.0 ∷ []) group.1) (spread groups) (unit ∷ key) number
    (has_key (prefixed (group.0 ∷ []) group.1) (group.0 ∷ key) (unit ∷ key) number (ap (λ unit. unit ∷ key) here.0)
    (has_one group.0 group.1 key number (subst (λ pairs. Has pairs key number) (sym here.1) h))))
    (λ later. has_right (prefixed (group.0 ∷ []) group.1) (spread groups) (unit ∷ key) number (has_spread groups unit pairs key number later h)) g

spread_has : (groups : List (ℕ × List (List ℕ × ℤ))) (key : List ℕ) (number : ℤ) → Has (spread groups) key number
    → (unit : ℕ) × (pairs : List (List ℕ × ℤ)) × (rest : List ℕ) × HasGroup groups unit pairs × (key ≡ unit ∷ rest) × Has pairs rest number
spread_has [] key number h = absurd h
spread_has (group ∷ groups) key number h =
    ⊎_elim
    (λ here. let r = one_has group.0 group.1 key number here in (group.0, group.1, r.0, inl (refl, refl), r.1, r.2))
    (λ later. let r = spread_has groups key number later in (r.0, r.1, r.2, inr r.3, r.4, r.5))
    (has_either (prefixed (group.0 ∷ []) group.1) (spread groups) key number h)

target_has : (units : List ℕ) (target : Target) (pairs : List (List ℕ × ℤ)) (rest : List ℕ) (number : ℤ) → TargetMeans units target pairs → TargetSpells units target rest number
    → Has pairs rest number
target_has units (Value value) pairs rest number means h = subst (λ pairs. Has pairs rest number) (sym means) (inl (sym h.0, h.1))
target_has units (Node index) pairs rest number means h = means.spelled rest number h

target_spells : (units : List ℕ) (target : Target) (pairs : List (List ℕ × ℤ)) (rest : List ℕ) (number : ℤ) → TargetMeans units target pairs → Has pairs rest number
    → TargetSpells units target rest number
target_spells units (Value value) pairs rest number means h =
    let one : Has (([], cast_signed w32 value) ∷ []) rest number = subst (λ pairs. Has pairs rest number) means h in
    ⊎_elim (λ here. (sym here.0, here.1)) (λ none. absurd none) one
target_spells units (Node index) pairs rest number means h = means.spells rest number h

led_spells : (units : List ℕ) (branch : Branch) (unit : ℕ) (target : Target) (rest : List ℕ) (number : ℤ) → Leads units branch unit target → TargetSpells units target rest number
    → MapsKey units (at_state (state.Branch branch)) (unit ∷ rest) number
led_spells units branch unit (Value value) rest number leads h =
    subst (λ rest. MapsKey units (at_state (state.Branch branch)) (unit ∷ rest) number) (sym h.0)
    (subst (λ number. MapsKey units (at_state (state.Branch branch)) (unit ∷ []) number) h.1 (branch_value branch unit value leads))
led_spells units branch unit (Node index) rest number leads h = branch_node branch unit index rest number leads h

first_group : (groups : List (ℕ × List (List ℕ × ℤ))) → 0 < length groups → (unit : ℕ) × (pairs : List (List ℕ × ℤ)) × HasGroup groups unit pairs
first_group [] some = absurd (omega (arith, some))
first_group (group ∷ groups) some = (group.0, group.1, inl (refl, refl))

branch_means : (units : List ℕ) (branch : Branch) (groups : List (ℕ × List (List ℕ × ℤ))) → WithinMeans units branch 0 0x10000 groups → SpotMeans units (at_state (state.Branch branch)) (spread groups)
branch_means units branch groups w =
    let first = first_group groups w.some in
    let leading = w.leads_to first.0 first.1 first.2 in
    record {
      spelled = λ key n h.
          let c = behind_cases units h in
          let m = w.leads c.0 c.2 c.4 in
          has_key (spread groups) (c.0 ∷ c.1) key n (sym c.3) (has_spread groups c.0 m.0 c.1 n m.1 (target_has units c.2 m.0 c.1 n m.2 c.5));
      spells = λ key n h.
          let s = spread_has groups key n h in
          let t = w.leads_to s.0 s.1 s.3 in
          subst (λ key. MapsKey units (at_state (state.Branch branch)) key n) (sym s.4)
          (led_spells units branch s.0 t.0 s.2 n t.1 (target_spells units t.0 s.1 s.2 n t.2 s.5));
      whole = whole_branch branch first.0 leading.0 leading.1 (λ other index leads. let m = w.leads other (Node index) leads in m.2.whole);
      sound = sound_branch branch w.sound;
    }

pub few_follows : (units : List ℕ) (index kind : ℕ) (groups : List (ℕ × List (List ℕ × ℤ))) → 0 < kind → kind < 0x30 → length groups ≡ kind + 1
    → WithinMeans units (record { count = length groups; index = index }) 0 0x10000 groups → FollowsMeans units index kind (spread groups)
few_follows units index kind groups some few l w =
    let many : Option State = after (slice_get units index) (λ last. Some (state.Branch (record { count = last + 1; index = index + 1 }))) in
    record {
      next = state.Branch (record { count = length groups; index = index });
      opens = if_not_leb 0x30 kind (Some (state.Match (record { left = kind - 0x2f; index = index }))) (if kind == 0 then many else Some (state.Branch (record { count = kind + 1; index = index }))) few
          ∙ if_not_eq kind 0 many (Some (state.Branch (record { count = kind + 1; index = index }))) (λ none. omega (arith, none, some))
          ∙ ap (λ count. Some (state.Branch (record { count = count; index = index }))) (sym l);
      means = branch_means units (record { count = length groups; index = index }) groups w;
    }

pub many_follows : (units : List ℕ) (index last : ℕ) (rest : List ℕ) (groups : List (ℕ × List (List ℕ × ℤ))) → length groups ≡ last + 1 → drop index units ≡ last ∷ rest
    → WithinMeans units (record { count = length groups; index = index + 1 }) 0 0x10000 groups → FollowsMeans units index 0 (spread groups)
many_follows units index last rest groups l e w = record {
  next = state.Branch (record { count = length groups; index = index + 1 });
  opens = ap (λ found. after found (λ last. Some (state.Branch (record { count = last + 1; index = index + 1 })))) (unit_at units index last rest e)
      ∙ ap (λ count. Some (state.Branch (record { count = count; index = index + 1 }))) (sym l);
  means = branch_means units (record { count = length groups; index = index + 1 }) groups w;
}
