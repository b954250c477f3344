-- What is left of a part stands ahead of it, so reading ends.
use Rattle.std.proofs.Common.{◌≡◌, ◌≢◌, ℕ, ℤ, suc, ◌+◌, ◌-◌, ◌*◌, ◌/◌, ◌%◌, ◌^◌, ◌<◌, ◌≤◌, ltb, leb, Bool, true, false, ◌==◌, if◌then◌else◌, ◌++◌, List, [], ◌∷◌, length, slice_get, Option, Some, None, refl, ap, ◌∙◌, sym, subst, arith, ⊎_elim}
use Rattle.std.specs.Option.{IfSome}
use Rattle.std.proofs.Math.Nat.{pow-le-pow_right, pow-suc, one-le-pow}
use Rattle.std.proofs.lemmas.Bool.{cases_lt, cases_eq}
use Rattle.std.proofs.lemmas.Option.{none-some, slice_get_within}
use Rattle.icu_char16trie.specs.UnitNumbers.{after, with_unit, two_units, final_number, intermediate_number, delta, landing}
use Rattle.icu_char16trie.specs.UnitSteps.{entry_at, entry_target, opened}
use Rattle.icu_char16trie.specs.UnitMaps.{IsNode, final, valued, bare}
use Rattle.icu_char16trie.specs.UnitPartSteps.{part_for, target_part, part_index}
use Rattle.icu_char16trie.specs.UnitReadingOrder.{Job, onward, extended, IsTaken}
use Rattle.icu_char16trie.specs.declared.cells.Number.{Number}
use Rattle.icu_char16trie.specs.declared.node.Entry.{Entry}
use Rattle.icu_char16trie.specs.declared.node.Target.{Target}
use Rattle.icu_char16trie.specs.declared.node.Target.TheVariants.{Value, Node}
use Rattle.icu_char16trie.specs.declared.node.State.{State}
use Rattle.icu_char16trie.specs.declared.node.State.TheVariants as state
use Rattle.icu_char16trie.specs.declared.reader.part.Part.{Part}
use Rattle.icu_char16trie.specs.declared.reader.part.Part.TheVariants as part
use Rattle.icu_char16trie.specs.declared.reader.part.Step.{Step}
use Rattle.icu_char16trie.proofs.Cursors.SearchLemmas.{if_leb, if_not_leb, if_ltb, if_not_ltb, if_eq, if_not_eq}
use Rattle.icu_char16trie.proofs.Cursors.BranchLemmas.{after-some, some-same}
use Rattle.icu_char16trie.proofs.Reading.PartStepLemmas.{behind_node, Stands, node_stands, run_stands, last_stands, entry_stands, halves_stand, stands}

abbrev number_of : ℕ → ℕ → Number
number_of value end = record { value = value; end = end }

value-not : (v p : ℕ) → Some (Value v) ≡ Some (Node p) → ⊥
value-not v p e = cc

node-same : (a b : ℕ) → Some (Node a) ≡ Some (Node b) → a ≡ b
node-same a b e = cc

-- a node's units are followed by a part that begins after them
abbrev pub IsBehind : ℕ → State → Type 0
IsBehind index next = (p : Part) × (part_for next ≡ Some p) × (index ≤ part_index p)

module _ (units : List ℕ) where
  with-end : (high index : ℕ) (n : Number) → with_unit units high index ≡ Some n → index < n.end
  with-end high index n e =
      let found = after-some (slice_get units index) (λ low. Some (number_of (high * 2 ^ 16 + low) (index + 1))) n e in
      let end : index + 1 ≡ n.end = ap (λ (n : Number). n.end) (some-same (number_of (high * 2 ^ 16 + found.0) (index + 1)) n found.2) in
      omega (arith, end)

  two-end : (index : ℕ) (n : Number) → two_units units index ≡ Some n → index < n.end
  two-end index n e =
      let found = after-some (slice_get units index) (λ high. with_unit units high (index + 1)) n e in
      omega (arith, with-end found.0 (index + 1) n found.2)

  final-end : (lead index : ℕ) (n : Number) → final_number units lead index ≡ Some n → index ≤ n.end
  final-end lead index n e =
      ⊎_elim
      (λ (low : lead < 0x4000).
      let same = some-same (number_of lead index) n (sym (if_ltb lead 0x4000 (Some (number_of lead index)) (if ltb lead 0x7fff then with_unit units (lead - 0x4000) index else two_units units index) low) ∙ e) in
      let end : index ≡ n.end = ap (λ (n : Number). n.end) same in omega (arith, end))
      (λ (high : 0x4000 ≤ lead).
      let more = sym (if_not_ltb lead 0x4000 (Some (number_of lead index)) (if ltb lead 0x7fff then with_unit units (lead - 0x4000) index else two_units units index) high) ∙ e in
      ⊎_elim
      (λ (low : lead < 0x7fff). let h = with-end (lead - 0x4000) index n (sym (if_ltb lead 0x7fff (with_unit units (lead - 0x4000) index) (two_units units index) low) ∙ more) in omega (arith, h))
      (λ (top : 0x7fff ≤ lead). let h = two-end index n (sym (if_not_ltb lead 0x7fff (with_unit units (lead - 0x4000) index) (two_units units index) top) ∙ more) in omega (arith, h))
      (cases_lt lead 0x7fff))
      (cases_lt lead 0x4000)

  intermediate-end : (lead index : ℕ) (n : Number) → intermediate_number units lead index ≡ Some n → index ≤ n.end
  intermediate-end lead index n e =
      ⊎_elim
      (λ (low : lead < 0x4040).
      let same = some-same (number_of (lead / 2 ^ 6 - 1) index) n (sym (if_ltb lead 0x4040 (Some (number_of (lead / 2 ^ 6 - 1) index)) (if ltb lead 0x7fc0 then with_unit units (lead / 2 ^ 6 - 0x101) index else two_units units index) low) ∙ e) in
      let end : index ≡ n.end = ap (λ (n : Number). n.end) same in omega (arith, end))
      (λ (high : 0x4040 ≤ lead).
      let more = sym (if_not_ltb lead 0x4040 (Some (number_of (lead / 2 ^ 6 - 1) index)) (if ltb lead 0x7fc0 then with_unit units (lead / 2 ^ 6 - 0x101) index else two_units units index) high) ∙ e in
      ⊎_elim
      (λ (low : lead < 0x7fc0). let h = with-end (lead / 2 ^ 6 - 0x101) index n (sym (if_ltb lead 0x7fc0 (with_unit units (lead / 2 ^ 6 - 0x101) index) (two_units units index) low) ∙ more) in omega (arith, h))
      (λ (top : 0x7fc0 ≤ lead). let h = two-end index n (sym (if_not_ltb lead 0x7fc0 (with_unit units (lead / 2 ^ 6 - 0x101) index) (two_units units index) top) ∙ more) in omega (arith, h))
      (cases_lt lead 0x7fc0))
      (cases_lt lead 0x4040)

  abbrev delta_of : ℕ → ℕ → Option Number
  delta_of index lead = if ltb lead 0xfc00 then Some (number_of lead (index + 1))
      else (if ltb lead 0xffff then with_unit units (lead - 0xfc00) (index + 1) else two_units units (index + 1))

  delta-end : (index : ℕ) (n : Number) → delta units index ≡ Some n → index < n.end
  delta-end index n e =
      let found = after-some (slice_get units index) (delta_of index) n e in
      let lead : ℕ = found.0 in
      ⊎_elim
      (λ (low : lead < 0xfc00).
      let same = some-same (number_of lead (index + 1)) n (sym (if_ltb lead 0xfc00 (Some (number_of lead (index + 1))) (if ltb lead 0xffff then with_unit units (lead - 0xfc00) (index + 1) else two_units units (index + 1)) low) ∙ found.2) in
      let end : index + 1 ≡ n.end = ap (λ (n : Number). n.end) same in omega (arith, end))
      (λ (high : 0xfc00 ≤ lead).
      let more = sym (if_not_ltb lead 0xfc00 (Some (number_of lead (index + 1))) (if ltb lead 0xffff then with_unit units (lead - 0xfc00) (index + 1) else two_units units (index + 1)) high) ∙ found.2 in
      ⊎_elim
      (λ (low : lead < 0xffff). let h = with-end (lead - 0xfc00) (index + 1) n (sym (if_ltb lead 0xffff (with_unit units (lead - 0xfc00) (index + 1)) (two_units units (index + 1)) low) ∙ more) in omega (arith, h))
      (λ (top : 0xffff ≤ lead). let h = two-end (index + 1) n (sym (if_not_ltb lead 0xffff (with_unit units (lead - 0xfc00) (index + 1)) (two_units units (index + 1)) top) ∙ more) in omega (arith, h))
      (cases_lt lead 0xffff))
      (cases_lt lead 0xfc00)

  landing-ahead : (jump : Number) (index : ℕ) → landing units jump ≡ Some index → jump.end ≤ index
  landing-ahead jump index e =
      ⊎_elim
      (λ (within : jump.end + jump.value < length units).
      let same : jump.end + jump.value ≡ index = some-same (jump.end + jump.value) index (sym (if_ltb (jump.end + jump.value) (length units) (Some (jump.end + jump.value)) None within) ∙ e) in omega (arith, same))
      (λ (past : length units ≤ jump.end + jump.value).
      absurd (none-some index (sym (if_not_ltb (jump.end + jump.value) (length units) (Some (jump.end + jump.value)) None past) ∙ e)))
      (cases_lt (jump.end + jump.value) (length units))

  abbrev entry_after : ℕ → ℕ → ℕ → Option Entry
  entry_after index unit lead = after (final_number units (lead % 0x8000) (index + 2)) (λ number. Some (record { unit = unit; is_value = leb 0x8000 lead; number = number }))

  entry-ahead : (index : ℕ) (entry : Entry) → entry_at units index ≡ Some entry → index < entry.number.end
  entry-ahead index entry e =
      let unit = after-some (slice_get units index) (λ unit. after (slice_get units (index + 1)) (entry_after index unit)) entry e in
      let lead = after-some (slice_get units (index + 1)) (entry_after index unit.0) entry unit.2 in
      let number = after-some (final_number units (lead.0 % 0x8000) (index + 2)) (λ number. Some (record { unit = unit.0; is_value = leb 0x8000 lead.0; number = number })) entry lead.2 in
      let same : number.0 ≡ entry.number = ap (λ (entry : Entry). entry.number) (some-same (record { unit = unit.0; is_value = leb 0x8000 lead.0; number = number.0 }) entry number.2) in
      let end : number.0.end ≡ entry.number.end = ap (λ (n : Number). n.end) same in
      omega (arith, final-end (lead.0 % 0x8000) (index + 2) number.0 number.1, end)

  entry-within : (index : ℕ) (entry : Entry) → entry_at units index ≡ Some entry → index < length units
  entry-within index entry e =
      let unit = after-some (slice_get units index) (λ unit. after (slice_get units (index + 1)) (entry_after index unit)) entry e in
      slice_get_within units index unit.0 unit.1

  target-node : (b : Bool) (jump : Number) (index : ℕ) → (if b then Some (Value jump.value) else after (landing units jump) (λ index. Some (Node index))) ≡ Some (Node index) → jump.end ≤ index
  target-node true jump index e = absurd (value-not jump.value index e)
  target-node false jump index e =
      let found = after-some (landing units jump) (λ index. Some (Node index)) (Node index) e in
      let same : found.0 ≡ index = node-same found.0 index found.2 in
      omega (arith, landing-ahead jump found.0 found.1, same)

  target-ahead : (entry : Entry) (target : Target) → entry_target units entry ≡ Some target → IfSome (target_part target) (λ p. entry.number.end ≤ part_index p)
  target-ahead entry (Value value) e = tt
  target-ahead entry (Node index) e = target-node entry.is_value entry.number index e

  abbrev branch_state : ℕ → ℕ → State
  branch_state count index = state.Branch (record { count = count; index = index })

  abbrev lower_kind : ℕ → ℕ → Option State
  lower_kind kind index = if kind == 0 then after (slice_get units index) (λ last. Some (branch_state (last + 1) (index + 1))) else Some (branch_state (kind + 1) index)

  abbrev run_state : ℕ → ℕ → State
  run_state kind index = state.Match (record { left = kind - 0x2f; index = index })

  pub opened-behind : (kind index : ℕ) (next : State) → opened units kind index ≡ Some next → IsBehind index next
  opened-behind kind index next e =
      ⊎_elim
      (λ (low : kind < 0x30).
      let more = sym (if_not_leb 0x30 kind (Some (run_state kind index)) (lower_kind kind index) low) ∙ e in
      ⊎_elim
      (λ (none : kind ≡ 0).
      let found = after-some (slice_get units index) (λ last. Some (branch_state (last + 1) (index + 1))) next
      (sym (if_eq kind 0 (after (slice_get units index) (λ last. Some (branch_state (last + 1) (index + 1)))) (Some (branch_state (kind + 1) index)) none) ∙ more) in
      subst (λ next. IsBehind index next) (some-same (branch_state (found.0 + 1) (index + 1)) next found.2) (part.Branch (record { branch = record { count = found.0 + 1; index = index + 1 }; low = 0; high = 0x10000 }), refl, omega arith))
      (λ (some : kind ≢ 0).
      subst (λ next. IsBehind index next) (some-same (branch_state (kind + 1) index) next
      (sym (if_not_eq kind 0 (after (slice_get units index) (λ last. Some (branch_state (last + 1) (index + 1)))) (Some (branch_state (kind + 1) index)) some) ∙ more))
      (part.Branch (record { branch = record { count = kind + 1; index = index }; low = 0; high = 0x10000 }), refl, omega arith))
      (cases_eq kind 0))
      (λ (high : 0x30 ≤ kind).
      subst (λ next. IsBehind index next) (some-same (run_state kind index) next (sym (if_leb 0x30 kind (Some (run_state kind index)) (lower_kind kind index) high) ∙ e))
      (part.Run (record { left = kind - 0x2f; index = index }), refl, omega arith))
      (cases_lt kind 0x30)

  behind-ahead : (index end : ℕ) (next : State) → index < end → IsBehind end next → IfSome (part_for next) (λ p. index < part_index p)
  behind-ahead index end next less h =
      subst (λ o. IfSome o (λ p. index < part_index p)) (sym h.1) (omega (arith, less, h.2))

  node-ahead : {index : ℕ} {value : Option ℕ} {next : Option State} → IsNode units index value next
      → (index < length units) × IfSome (behind_node next) (λ p. index < part_index p)
  node-ahead (final index lead number e high reads) = (slice_get_within units index lead e, tt)
  node-ahead (valued index lead number next e low high reads opens) = (
    slice_get_within units index lead e,
    behind-ahead index number.end next (omega (arith, intermediate-end lead (index + 1) number reads)) (opened-behind (lead % 0x40) number.end next opens),
  )
  node-ahead (bare index lead next e low opens) =
      (slice_get_within units index lead e, behind-ahead index (index + 1) next (omega arith) (opened-behind lead (index + 1) next opens))

  if-index : (b : Bool) (left index : ℕ) → part_index (if b then part.Node index else part.Run (record { left = left; index = index })) ≡ index
  if-index true left index = refl
  if-index false left index = refl

  pub record IsAhead (p : Part) (step : Step) : Type 0 where
    pub within : part_index p < length units
    pub next : IfSome step.next (λ q. part_index p < part_index q)
    pub rest : IfSome step.rest (λ q. part_index p < part_index q)

  target-behind : (index : ℕ) (entry : Entry) (target : Target) → index < entry.number.end → entry_target units entry ≡ Some target
      → IfSome (target_part target) (λ q. index < part_index q)
  target-behind index entry (Value value) less e = tt
  target-behind index entry (Node node) less e = let h = target-ahead entry (Node node) e in omega (arith, less, h)

  pub ahead : {p : Part} {step : Step} → Stands units p step → IsAhead p step
  ahead (node_stands index value next node) = let h = node-ahead node in record { within = h.0; next = h.1; rest = tt }
  ahead (run_stands run unit e) = record {
    within = slice_get_within units run.index unit e;
    next = omega (arith, if-index (leb run.left 1) (run.left - 1) (run.index + 1));
    rest = tt;
  }
  ahead (last_stands b unit one e above below) = record { within = slice_get_within units b.branch.index unit e; next = omega arith; rest = tt }
  ahead (entry_stands b entry target more few e to above below) = record {
    within = entry-within b.branch.index entry e;
    next = target-behind b.branch.index entry target (entry-ahead b.branch.index entry e) to;
    rest = entry-ahead b.branch.index entry e;
  }
  ahead (halves_stand b middle index jump many e reads lands above below) = record {
    within = slice_get_within units b.branch.index middle e;
    next = omega (arith, delta-end (b.branch.index + 1) jump reads, landing-ahead jump index lands);
    rest = omega (arith, delta-end (b.branch.index + 1) jump reads);
  }

-- how much is still to be read: three times less for a part that begins later
unfoldable pub work : ℕ → List Job → ℕ
work size [] = 0
work size (job ∷ rest) = 3 ^ (size - part_index job.1) + work size rest

pub third : (size here there : ℕ) → here < size → here < there → 3 * 3 ^ (size - there) ≤ 3 ^ (size - here)
third size here there within ahead =
    let e : size - here ≡ suc (size - here - 1) = omega (arith, within) in
    let p : 3 ^ (size - here) ≡ 3 ^ (size - here - 1) * 3 = ap (λ n. 3 ^ n) e ∙ pow-suc 3 (size - here - 1) in
    let q : 3 ^ (size - there) ≤ 3 ^ (size - here - 1) = pow-le-pow_right {n = 3} (omega arith) {i = size - there} {j = size - here - 1} (omega (arith, within, ahead)) in
    omega (arith, p, q)

pub positive : (n : ℕ) → 0 < 3 ^ n
positive n = let h = one-le-pow n 3 (omega arith) in omega (arith, h)

work-step : (size index : ℕ) (key longer : List ℕ) (next rest : Option Part) (before : List Job) → index < size
    → IfSome next (λ q. index < part_index q) → IfSome rest (λ q. index < part_index q)
    → work size ((onward longer next ++ onward key rest) ++ before) < 3 ^ (size - index) + work size before
unfolding work
work-step size index key longer None None before within h k = let p = positive (size - index) in omega (arith, p)
work-step size index key longer (Some next) None before within h k =
    let p = third size index (part_index next) within h in let q = positive (size - part_index next) in omega (arith, p, q)
work-step size index key longer None (Some rest) before within h k =
    let p = third size index (part_index rest) within k in let q = positive (size - part_index rest) in omega (arith, p, q)
work-step size index key longer (Some next) (Some rest) before within h k =
    let p = third size index (part_index next) within h in let q = third size index (part_index rest) within k in
    let r = positive (size - part_index next) in let s = positive (size - part_index rest) in
    omega (arith, p, q, r, s)

-- less is to be read once a part is taken up
pub work_falls : (units : List ℕ) (limit : ℕ) (key : List ℕ) (p : Part) (left before after : List Job) (read now : List (List ℕ × ℤ)) → left ≡ (key, p) ∷ before
    → IsTaken units limit key p before after read now → work (length units) after < work (length units) left
unfolding work
work_falls units limit key p left before after read now popped h =
    let a = ahead units (stands units p h.step h.stands) in
    let less = work-step (length units) (part_index p) key (extended key h.step.unit) h.step.next h.step.rest before a.within a.next a.rest in
    subst (λ left. work (length units) after < work (length units) left) (sym popped)
    (subst (λ after. work (length units) after < 3 ^ (length units - part_index p) + work (length units) before) (sym h.jobs) less)
