-- What stands first in a part of a unit trie, rule by rule.
use Rattle.std.proofs.Common.{◌≡◌, ℕ, ◌+◌, ◌-◌, ◌/◌, ◌%◌, ◌<◌, ◌≤◌, leb, if◌then◌else◌, List, length, slice_get, Option, Some, None, Result, Ok, Err, refl, ap, ◌∙◌, sym, subst, arith, ⊎_elim}
use Rattle.std.proofs.lemmas.Bool.{cases_lt}
use Rattle.icu_char16trie.specs.UnitNumbers.{after, final_number, intermediate_number, delta, landing}
use Rattle.icu_char16trie.specs.UnitSteps.{entry_at, entry_target, opened}
use Rattle.icu_char16trie.specs.UnitMaps.{IsNode, final, valued, bare}
use Rattle.icu_char16trie.specs.UnitPartSteps.{or_end, or_here, bounded, part_for, at_node, node_step, run_on, run_step, last_step, target_value, target_part, entry_step, halves_step, part_step}
use Rattle.icu_char16trie.specs.declared.cells.Number.{Number}
use Rattle.icu_char16trie.specs.declared.node.Entry.{Entry}
use Rattle.icu_char16trie.specs.declared.node.Match.{Match}
use Rattle.icu_char16trie.specs.declared.node.Target.{Target}
use Rattle.icu_char16trie.specs.declared.node.State.{State}
use Rattle.icu_char16trie.specs.declared.reader.part.Bounded.{Bounded}
use Rattle.icu_char16trie.specs.declared.reader.part.Part.{Part}
use Rattle.icu_char16trie.specs.declared.reader.part.Part.TheVariants as part
use Rattle.icu_char16trie.specs.declared.reader.part.Step.{Step}
use Rattle.icu_char16trie.proofs.Cursors.SearchLemmas.{if_leb, if_not_leb, if_ltb, if_not_ltb}
use Rattle.icu_char16trie.proofs.Cursors.BranchLemmas.{after-some, some-same}

-- the part after a node, if anything follows it
abbrev pub behind_node : Option State → Option Part
behind_node None = None
behind_node (Some next) = part_for next

-- what stands first in a part, by the rules of the grammar
pub data Stands (units : List ℕ) : Part → Step → Type 0 where
  node_stands : (index : ℕ) (value : Option ℕ) (next : Option State) → IsNode units index value next
      → Stands units (part.Node index) (at_node value (behind_node next))
  run_stands : (run : Match) (unit : ℕ) → slice_get units run.index ≡ Some unit
      → Stands units (part.Run run) (record { unit = Some unit; value = None; next = Some (run_on run); rest = None })
  last_stands : (b : Bounded) (unit : ℕ) → b.branch.count ≤ 1 → slice_get units b.branch.index ≡ Some unit → b.low ≤ unit → unit < b.high
      → Stands units (part.Branch b) (record { unit = Some unit; value = None; next = Some (part.Node (b.branch.index + 1)); rest = None })
  entry_stands : (b : Bounded) (entry : Entry) (target : Target) → 1 < b.branch.count → b.branch.count ≤ 5
      → entry_at units b.branch.index ≡ Some entry → entry_target units entry ≡ Some target → b.low ≤ entry.unit → entry.unit < b.high
      → Stands units (part.Branch b) (record {
        unit = Some entry.unit;
        value = target_value target;
        next = target_part target;
        rest = Some (bounded (b.branch.count - 1) entry.number.end (entry.unit + 1) b.high);
      })
  halves_stand : (b : Bounded) (middle index : ℕ) (jump : Number) → 5 < b.branch.count
      → slice_get units b.branch.index ≡ Some middle → delta units (b.branch.index + 1) ≡ Some jump → landing units jump ≡ Some index
      → b.low < middle → middle < b.high
      → Stands units (part.Branch b) (record {
        unit = None;
        value = None;
        next = Some (bounded (b.branch.count / 2) index b.low middle);
        rest = Some (bounded (b.branch.count - b.branch.count / 2) jump.end middle b.high);
      })

abbrev stopped : (A : Type 0) → ℕ → Result A ℕ
stopped A index = Err index

abbrev read : (A : Type 0) → A → Result A ℕ
read A x = Ok x

err-ok : {A : Type 0} (index : ℕ) (y : A) → stopped A index ≡ Ok y → ⊥
err-ok index y e = cc

ok-same : {A : Type 0} (x y : A) → read A x ≡ Ok y → x ≡ y
ok-same x y e = cc

or-end-ok : {A B : Type 0} (units : List ℕ) (o : Option A) (f : A → Result B ℕ) (y : B) → or_end units o f ≡ Ok y → (x : A) × (o ≡ Some x) × (f x ≡ Ok y)
or-end-ok units None f y e = absurd (err-ok (length units) y e)
or-end-ok units (Some x) f y e = (x, refl, e)

or-here-ok : {B : Type 0} (low high number index : ℕ) (r : Result B ℕ) (y : B) → or_here low high number index r ≡ Ok y → (low ≤ number) × (number < high) × (r ≡ Ok y)
or-here-ok {B = B} low high number index r y e =
    ⊎_elim
    (λ (less : number < low). absurd (err-ok index y (sym (if_ltb number low (stopped B index) (if leb high number then Err index else r) less) ∙ e)))
    (λ (more : low ≤ number).
    let further = sym (if_not_ltb number low (stopped B index) (if leb high number then Err index else r) more) ∙ e in
    ⊎_elim
    (λ (below : number < high). (more, below, sym (if_not_leb high number (stopped B index) r below) ∙ further))
    (λ (past : high ≤ number). absurd (err-ok index y (sym (if_leb high number (stopped B index) r past) ∙ further)))
    (cases_lt number high))
    (cases_lt number low)

pub or-here-within : {B : Type 0} (low high number index : ℕ) (r : Result B ℕ) → low ≤ number → number < high → or_here low high number index r ≡ r
or-here-within {B = B} low high number index r more below =
    if_not_ltb number low (stopped B index) (if leb high number then Err index else r) more ∙ if_not_leb high number (stopped B index) r below

abbrev final_at : List ℕ → ℕ → ℕ → Option Step
final_at units index lead = after (final_number units (lead - 0x8000) (index + 1)) (λ number. Some (at_node (Some number.value) None))

abbrev valued_behind : List ℕ → ℕ → Number → Option Step
valued_behind units lead number = after (opened units (lead % 0x40) number.end) (λ next. Some (at_node (Some number.value) (part_for next)))

abbrev valued_at : List ℕ → ℕ → ℕ → Option Step
valued_at units index lead = after (intermediate_number units lead (index + 1)) (valued_behind units lead)

abbrev bare_at : List ℕ → ℕ → ℕ → Option Step
bare_at units index lead = after (opened units lead (index + 1)) (λ next. Some (at_node None (part_for next)))

abbrev lower_at : List ℕ → ℕ → ℕ → Option Step
lower_at units index lead = if leb 0x40 lead then valued_at units index lead else bare_at units index lead

abbrev lead_at : List ℕ → ℕ → ℕ → Option Step
lead_at units index lead = if leb 0x8000 lead then final_at units index lead else lower_at units index lead

pub node-step-is : (units : List ℕ) {index : ℕ} {value : Option ℕ} {next : Option State} → IsNode units index value next
    → node_step units index ≡ Some (at_node value (behind_node next))
node-step-is units (final index lead number e high reads) =
    ap (λ found. after found (lead_at units index)) e
    ∙ if_leb 0x8000 lead (final_at units index lead) (lower_at units index lead) high
    ∙ ap (λ found. after found (λ number. Some (at_node (Some number.value) None))) reads
node-step-is units (valued index lead number next e low high reads opens) =
    ap (λ found. after found (lead_at units index)) e
    ∙ if_not_leb 0x8000 lead (final_at units index lead) (lower_at units index lead) low
    ∙ if_leb 0x40 lead (valued_at units index lead) (bare_at units index lead) high
    ∙ ap (λ found. after found (valued_behind units lead)) reads
    ∙ ap (λ found. after found (λ next. Some (at_node (Some number.value) (part_for next)))) opens
node-step-is units (bare index lead next e low opens) =
    ap (λ found. after found (lead_at units index)) e
    ∙ if_not_leb 0x8000 lead (final_at units index lead) (lower_at units index lead) (omega (arith, low))
    ∙ if_not_leb 0x40 lead (valued_at units index lead) (bare_at units index lead) low
    ∙ ap (λ found. after found (λ next. Some (at_node None (part_for next)))) opens

pub node-step-inverse : (units : List ℕ) (index : ℕ) (step : Step) → node_step units index ≡ Some step
    → (value : Option ℕ) × (next : Option State) × IsNode units index value next × (at_node value (behind_node next) ≡ step)
node-step-inverse units index step e =
    let found = after-some (slice_get units index) (lead_at units index) step e in
    let lead : ℕ = found.0 in
    ⊎_elim
    (λ (low : lead < 0x8000).
    let lower = sym (if_not_leb 0x8000 lead (final_at units index lead) (lower_at units index lead) low) ∙ found.2 in
    ⊎_elim
    (λ (plain : lead < 0x40).
    let opens = after-some (opened units lead (index + 1)) (λ next. Some (at_node None (part_for next))) step
    (sym (if_not_leb 0x40 lead (valued_at units index lead) (bare_at units index lead) plain) ∙ lower) in
    (None, Some opens.0, bare index lead opens.0 found.1 plain opens.1, some-same (at_node None (part_for opens.0)) step opens.2))
    (λ (high : 0x40 ≤ lead).
    let reads = after-some (intermediate_number units lead (index + 1)) (valued_behind units lead) step
    (sym (if_leb 0x40 lead (valued_at units index lead) (bare_at units index lead) high) ∙ lower) in
    let opens = after-some (opened units (lead % 0x40) reads.0.end) (λ next. Some (at_node (Some reads.0.value) (part_for next))) step reads.2 in
    (Some reads.0.value, Some opens.0, valued index lead reads.0 opens.0 found.1 low high reads.1 opens.1, some-same (at_node (Some reads.0.value) (part_for opens.0)) step opens.2))
    (cases_lt lead 0x40))
    (λ (high : 0x8000 ≤ lead).
    let reads = after-some (final_number units (lead - 0x8000) (index + 1)) (λ number. Some (at_node (Some number.value) None)) step
    (sym (if_leb 0x8000 lead (final_at units index lead) (lower_at units index lead) high) ∙ found.2) in
    (Some reads.0.value, None, final index lead reads.0 found.1 high reads.1, some-same (at_node (Some reads.0.value) None) step reads.2))
    (cases_lt lead 0x8000)

abbrev run_unit : Match → ℕ → Step
run_unit run unit = record { unit = Some unit; value = None; next = Some (run_on run); rest = None }

abbrev last_unit : Bounded → ℕ → Step
last_unit b unit = record { unit = Some unit; value = None; next = Some (part.Node (b.branch.index + 1)); rest = None }

abbrev entry_unit : Bounded → Entry → Target → Step
entry_unit b entry target = record {
  unit = Some entry.unit;
  value = target_value target;
  next = target_part target;
  rest = Some (bounded (b.branch.count - 1) entry.number.end (entry.unit + 1) b.high);
}

abbrev two_halves : Bounded → ℕ → Number → ℕ → Step
two_halves b middle jump index = record {
  unit = None;
  value = None;
  next = Some (bounded (b.branch.count / 2) index b.low middle);
  rest = Some (bounded (b.branch.count - b.branch.count / 2) jump.end middle b.high);
}

module _ (units : List ℕ) where
  last-inverse : (b : Bounded) (step : Step) → b.branch.count ≤ 1 → last_step units b ≡ Ok step → Stands units (part.Branch b) step
  last-inverse b step one e =
      let found = or-end-ok units (slice_get units b.branch.index) (λ unit. or_here b.low b.high unit b.branch.index (Ok (last_unit b unit))) step e in
      let among = or-here-ok b.low b.high found.0 b.branch.index (Ok (last_unit b found.0)) step found.2 in
      subst (λ step. Stands units (part.Branch b) step) (ok-same (last_unit b found.0) step among.2)
      (last_stands b found.0 one found.1 among.0 among.1)

  entry-inverse : (b : Bounded) (step : Step) → 1 < b.branch.count → b.branch.count ≤ 5 → entry_step units b ≡ Ok step → Stands units (part.Branch b) step
  entry-inverse b step more few e =
      let found = or-end-ok units (entry_at units b.branch.index) (λ entry. or_here b.low b.high entry.unit b.branch.index
      (or_end units (entry_target units entry) (λ target. Ok (entry_unit b entry target)))) step e in
      let among = or-here-ok b.low b.high found.0.unit b.branch.index (or_end units (entry_target units found.0) (λ target. Ok (entry_unit b found.0 target))) step found.2 in
      let to = or-end-ok units (entry_target units found.0) (λ target. Ok (entry_unit b found.0 target)) step among.2 in
      subst (λ step. Stands units (part.Branch b) step) (ok-same (entry_unit b found.0 to.0) step to.2)
      (entry_stands b found.0 to.0 more few found.1 to.1 among.0 among.1)

  halves-inverse : (b : Bounded) (step : Step) → 5 < b.branch.count → halves_step units b ≡ Ok step → Stands units (part.Branch b) step
  halves-inverse b step many e =
      let found = or-end-ok units (slice_get units b.branch.index) (λ middle. or_here (b.low + 1) b.high middle b.branch.index
      (or_end units (delta units (b.branch.index + 1)) (λ jump. or_end units (landing units jump) (λ index. Ok (two_halves b middle jump index))))) step e in
      let among = or-here-ok (b.low + 1) b.high found.0 b.branch.index
      (or_end units (delta units (b.branch.index + 1)) (λ jump. or_end units (landing units jump) (λ index. Ok (two_halves b found.0 jump index)))) step found.2 in
      let jumps = or-end-ok units (delta units (b.branch.index + 1)) (λ jump. or_end units (landing units jump) (λ index. Ok (two_halves b found.0 jump index))) step among.2 in
      let lands = or-end-ok units (landing units jumps.0) (λ index. Ok (two_halves b found.0 jumps.0 index)) step jumps.2 in
      subst (λ step. Stands units (part.Branch b) step) (ok-same (two_halves b found.0 jumps.0 lands.0) step lands.2)
      (halves_stand b found.0 lands.0 jumps.0 many found.1 jumps.1 lands.1 (omega (arith, among.0)) among.1)

  abbrev few_step : Bounded → Result Step ℕ
  few_step b = if leb b.branch.count 5 then entry_step units b else halves_step units b

  pub stands : (p : Part) (step : Step) → part_step units p ≡ Ok step → Stands units p step
  stands (part.Node index) step e =
      let found = or-end-ok units (node_step units index) Ok step e in
      let node = node-step-inverse units index found.0 found.1 in
      subst (λ step. Stands units (part.Node index) step) (node.3 ∙ ok-same found.0 step found.2) (node_stands index node.0 node.1 node.2)
  stands (part.Run run) step e =
      let found = or-end-ok units (run_step units run) Ok step e in
      let unit = after-some (slice_get units run.index) (λ unit. Some (run_unit run unit)) found.0 found.1 in
      subst (λ step. Stands units (part.Run run) step) (some-same (run_unit run unit.0) found.0 unit.2 ∙ ok-same found.0 step found.2)
      (run_stands run unit.0 unit.1)
  stands (part.Branch b) step e =
      ⊎_elim
      (λ (more : 1 < b.branch.count).
      let further = sym (if_not_leb b.branch.count 1 (last_step units b) (few_step b) more) ∙ e in
      ⊎_elim
      (λ (many : 5 < b.branch.count). halves-inverse b step many (sym (if_not_leb b.branch.count 5 (entry_step units b) (halves_step units b) many) ∙ further))
      (λ (few : b.branch.count ≤ 5). entry-inverse b step more few (sym (if_leb b.branch.count 5 (entry_step units b) (halves_step units b) few) ∙ further))
      (cases_lt 5 b.branch.count))
      (λ (one : b.branch.count ≤ 1). last-inverse b step one (sym (if_leb b.branch.count 1 (last_step units b) (few_step b) one) ∙ e))
      (cases_lt 1 b.branch.count)

  -- the other way
  pub step_of : {p : Part} {step : Step} → Stands units p step → part_step units p ≡ Ok step
  step_of (node_stands index value next node) = ap (λ found. or_end units found Ok) (node-step-is units node)
  step_of (run_stands run unit e) = ap (λ found. or_end units (after found (λ unit. Some (run_unit run unit))) Ok) e
  step_of (last_stands b unit one e above below) =
      if_leb b.branch.count 1 (last_step units b) (few_step b) one
      ∙ ap (λ found. or_end units found (λ unit. or_here b.low b.high unit b.branch.index (Ok (last_unit b unit)))) e
      ∙ or-here-within b.low b.high unit b.branch.index (Ok (last_unit b unit)) above below
  step_of (entry_stands b entry target more few e to above below) =
      if_not_leb b.branch.count 1 (last_step units b) (few_step b) more
      ∙ if_leb b.branch.count 5 (entry_step units b) (halves_step units b) few
      ∙ ap (λ found. or_end units found (λ entry. or_here b.low b.high entry.unit b.branch.index
      (or_end units (entry_target units entry) (λ target. Ok (entry_unit b entry target))))) e
      ∙ or-here-within b.low b.high entry.unit b.branch.index (or_end units (entry_target units entry) (λ target. Ok (entry_unit b entry target))) above below
      ∙ ap (λ found. or_end units found (λ target. Ok (entry_unit b entry target))) to
  step_of (halves_stand b middle index jump many e reads lands above below) =
      if_not_leb b.branch.count 1 (last_step units b) (few_step b) (omega (arith, many))
      ∙ if_not_leb b.branch.count 5 (entry_step units b) (halves_step units b) many
      ∙ ap (λ found. or_end units found (λ middle. or_here (b.low + 1) b.high middle b.branch.index
      (or_end units (delta units (b.branch.index + 1)) (λ jump. or_end units (landing units jump) (λ index. Ok (two_halves b middle jump index)))))) e
      ∙ or-here-within (b.low + 1) b.high middle b.branch.index
      (or_end units (delta units (b.branch.index + 1)) (λ jump. or_end units (landing units jump) (λ index. Ok (two_halves b middle jump index)))) (omega (arith, above)) below
      ∙ ap (λ found. or_end units found (λ jump. or_end units (landing units jump) (λ index. Ok (two_halves b middle jump index)))) reads
      ∙ ap (λ found. or_end units found (λ index. Ok (two_halves b middle jump index))) lands
