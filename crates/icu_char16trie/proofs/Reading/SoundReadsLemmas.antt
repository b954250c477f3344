-- What is read from units is what they spell, and units in the grammar are read.
use Rattle.std.proofs.Common.{◌≡◌, ℕ, ◌+◌, ◌-◌, ◌%◌, ◌<◌, ◌≤◌, ◌++◌, List, [], ◌∷◌, slice_get, Option, Some, None, refl, ap, ◌∙◌, sym, subst, ⊎_elim, append_assoc}
use Rattle.std.proofs.lemmas.Bool.{cases_lt}
use Rattle.std.proofs.lemmas.List.{append-nil}
use Rattle.std.proofs.lemmas.Option.{none-some}
use Rattle.std.specs.Int.{cast_signed, w32}
use Rattle.icu_char16trie.specs.UnitMaps.{at_node, at_state, IsNode, final, valued, bare}
use Rattle.icu_char16trie.specs.UnitGrammar.{spot, within, IsSound, sound_end, sound_node, sound_run, sound_run_end, sound_branch, sound_last, sound_value, sound_jump, sound_halves}
use Rattle.icu_char16trie.specs.UnitGrammar.{GrammarPart as Rule}
use Rattle.icu_char16trie.specs.UnitPartSteps.{at_node as node_of, part_for, run_on}
use Rattle.icu_char16trie.specs.UnitReadingOrder.{Job, noted, jobs_of, pairs_of, Reads, done, on}
use Rattle.icu_char16trie.specs.declared.node.Match.{Match}
use Rattle.icu_char16trie.specs.declared.node.Target.TheVariants.{Value, Node}
use Rattle.icu_char16trie.specs.declared.node.State.{State}
use Rattle.icu_char16trie.specs.declared.node.State.TheVariants as state
use Rattle.icu_char16trie.specs.declared.reader.part.Part.{Part}
use Rattle.icu_char16trie.specs.declared.reader.part.Part.TheVariants as part
use Rattle.icu_char16trie.specs.declared.reader.part.Step.{Step}
use Rattle.icu_char16trie.proofs.Cursors.SearchLemmas.{if_leb, if_not_leb}
use Rattle.icu_char16trie.proofs.Reading.PartStepLemmas.{behind_node, Stands, node_stands, run_stands, last_stands, entry_stands, halves_stand, stands}
use Rattle.icu_char16trie.proofs.Reading.ProgressLemmas.{IsBehind, opened-behind}
use Rattle.icu_char16trie.proofs.Grammar.ListingLemmas.{Pair, behind_unit, with_value, listing}

-- the rule that a part is about
abbrev pub rule_of : Part → Rule
rule_of (part.Node index) = spot (at_node index)
rule_of (part.Run run) = spot (at_state (state.Match run))
rule_of (part.Branch b) = within b.branch b.low b.high

-- the keys go on from the key
abbrev pub under : List ℕ → List Pair → List Pair
under key [] = []
under key (pair ∷ rest) = (key ++ pair.0, pair.1) ∷ under key rest

pub under-append : (key : List ℕ) (xs ys : List Pair) → under key (xs ++ ys) ≡ under key xs ++ under key ys
under-append key [] ys = refl
under-append key (x ∷ xs) ys = ap (λ rest. (key ++ x.0, x.1) ∷ rest) (under-append key xs ys)

pub under-unit : (key : List ℕ) (unit : ℕ) (xs : List Pair) → under (key ++ (unit ∷ [])) xs ≡ under key (behind_unit unit xs)
under-unit key unit [] = refl
under-unit key unit (x ∷ xs) =
    ap (λ front. (front, x.1) ∷ under (key ++ (unit ∷ [])) xs) (append_assoc key (unit ∷ []) x.0)
    ∙ ap (λ rest. (key ++ (unit ∷ x.0), x.1) ∷ rest) (under-unit key unit xs)

pub under-nil : (xs : List Pair) → under [] xs ≡ xs
under-nil [] = refl
under-nil (x ∷ xs) = ap (λ rest. x ∷ rest) (under-nil xs)

-- the jobs keep the grammar, and the pairs are those that they spell
abbrev pub SoundJobs : List ℕ → List Job → List Pair → Type 0
SoundJobs units [] pairs = pairs ≡ []
SoundJobs units (job ∷ rest) pairs =
    (sound : IsSound units (rule_of job.1)) × (back : List Pair) × SoundJobs units rest back × (pairs ≡ under job.0 (listing units sound) ++ back)

module _ (units : List ℕ) (key : List ℕ) (rest : List Job) (pairs : List Pair) where
  valued-under : (value : Option ℕ) (xs back : List Pair) → pairs ≡ under key xs ++ back → noted key value ++ pairs ≡ under key (with_value value xs) ++ back
  valued-under None xs back e = e
  valued-under (Some value) xs back e =
      ap (λ pairs. (key, cast_signed w32 value) ∷ pairs) e
      ∙ ap (λ key'. (key', cast_signed w32 value) ∷ (under key xs ++ back)) (sym (append-nil key))

  unit-under : (unit : ℕ) (xs back : List Pair) → pairs ≡ under (key ++ (unit ∷ [])) xs ++ back → pairs ≡ under key (behind_unit unit xs) ++ back
  unit-under unit xs back e = e ∙ ap (λ front. front ++ back) (under-unit key unit xs)

  both-under : (xs ys more back : List Pair) → pairs ≡ under key xs ++ more → more ≡ under key ys ++ back → pairs ≡ under key (xs ++ ys) ++ back
  both-under xs ys more back e f =
      e ∙ ap (λ more. under key xs ++ more) f ∙ sym (append_assoc (under key xs) (under key ys) back) ∙ ap (λ front. front ++ back) (sym (under-append key xs ys))

  node-sound : (index end : ℕ) (value : Option ℕ) (next : State) → IsNode units index value (Some next) → IsBehind end next
      → SoundJobs units (jobs_of key (node_of value (part_for next)) ++ rest) pairs → SoundJobs units ((key, part.Node index) ∷ rest) (noted key value ++ pairs)
  unfolding listing
  node-sound index end value (state.Stopped) node far h = absurd (none-some far.0 far.1)
  node-sound index end value (state.Match run) node far h =
      (sound_node index value (state.Match run) node h.0, h.1, h.2, valued-under value (listing units h.0) h.1 h.3)
  node-sound index end value (state.Branch branch) node far h =
      (sound_node index value (state.Branch branch) node (sound_branch branch h.0), h.1, h.2, valued-under value (listing units h.0) h.1 h.3)

  any-node-sound : {index : ℕ} {value : Option ℕ} {next : Option State} → IsNode units index value next
      → SoundJobs units (jobs_of key (node_of value (behind_node next)) ++ rest) pairs → SoundJobs units ((key, part.Node index) ∷ rest) (noted key value ++ pairs)
  unfolding listing
  any-node-sound (final index lead number e high reads) h = (
    sound_end index number.value (final index lead number e high reads),
    pairs,
    h,
    ap (λ key'. (key', cast_signed w32 number.value) ∷ pairs) (sym (append-nil key)),
  )
  any-node-sound (valued index lead number next e low high reads opens) h =
      node-sound index number.end (Some number.value) next (valued index lead number next e low high reads opens) (opened-behind units (lead % 0x40) number.end next opens) h
  any-node-sound (bare index lead next e low opens) h =
      node-sound index (index + 1) None next (bare index lead next e low opens) (opened-behind units lead (index + 1) next opens) h

  run-sound : (run : Match) (unit : ℕ) → slice_get units run.index ≡ Some unit
      → SoundJobs units ((key ++ (unit ∷ []), run_on run) ∷ rest) pairs → SoundJobs units ((key, part.Run run) ∷ rest) pairs
  unfolding listing
  run-sound run unit e h =
      let go : Part = part.Run (record { left = run.left - 1; index = run.index + 1 }) in
      ⊎_elim
      (λ (more : 1 < run.left).
      let k = subst (λ q. SoundJobs units ((key ++ (unit ∷ []), q) ∷ rest) pairs) (if_not_leb run.left 1 (part.Node (run.index + 1)) go more) h in
      (sound_run run unit e more k.0, k.1, k.2, unit-under unit (listing units k.0) k.1 k.3))
      (λ (few : run.left ≤ 1).
      let k = subst (λ q. SoundJobs units ((key ++ (unit ∷ []), q) ∷ rest) pairs) (if_leb run.left 1 (part.Node (run.index + 1)) go few) h in
      (sound_run_end run unit e few k.0, k.1, k.2, unit-under unit (listing units k.0) k.1 k.3))
      (cases_lt 1 run.left)

  step-sound : {p : Part} {step : Step} → Stands units p step → SoundJobs units (jobs_of key step ++ rest) pairs
      → SoundJobs units ((key, p) ∷ rest) (pairs_of key step ++ pairs)
  unfolding listing
  step-sound (node_stands index value next node) h = any-node-sound node h
  step-sound (run_stands run unit e) h = run-sound run unit e h
  step-sound (last_stands b unit one e above below) h =
      (sound_last b.branch b.low b.high unit one e above below h.0, h.1, h.2, unit-under unit (listing units h.0) h.1 h.3)
  step-sound (entry_stands b entry (Value value) more few e to above below) h = (
    sound_value b.branch b.low b.high value entry more few e to above below h.0,
    h.1,
    h.2,
    ap (λ pairs. (key ++ (entry.unit ∷ []), cast_signed w32 value) ∷ pairs) h.3,
  )
  step-sound (entry_stands b entry (Node index) more few e to above below) h = (
    sound_jump b.branch b.low b.high index entry more few e to above below h.0 h.2.0,
    h.2.1,
    h.2.2,
    both-under (behind_unit entry.unit (listing units h.0)) (listing units h.2.0) h.1 h.2.1 (unit-under entry.unit (listing units h.0) h.1 h.3) h.2.3,
  )
  step-sound (halves_stand b middle index jump many e reads lands above below) h = (
    sound_halves b.branch b.low b.high middle index jump many e reads lands above below h.0 h.2.0,
    h.2.1,
    h.2.2,
    both-under (listing units h.0) (listing units h.2.0) h.1 h.2.1 h.3 h.2.3,
  )

pub reads-sound : (units : List ℕ) (limit : ℕ) {jobs : List Job} {pairs : List Pair} → Reads units limit jobs pairs → SoundJobs units jobs pairs
reads-sound units limit done = refl
reads-sound units limit (on key p step rest pairs e room more) = step-sound units key rest pairs (stands units p step e) (reads-sound units limit more)
