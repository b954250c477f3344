-- Units in the grammar are read, and what is read is their list.
use Rattle.std.proofs.Common.{◌≡◌, ℕ, ℤ, ◌+◌, ◌-◌, ◌/◌, ◌<◌, ◌≤◌, ◌++◌, List, [], ◌∷◌, length, slice_get, Option, Some, None, Result, Ok, Err, refl, ap, ◌∙◌, sym, subst, arith, inl, inr, ⊎_elim, append_assoc, length-append}
use Rattle.std.proofs.lemmas.List.{append-nil}
use Rattle.std.proofs.lemmas.List.Elements.{Contains-append_left, Contains-append_right, Contains-append_cases, Contains-push, Contains-push_cases}
use Rattle.std.proofs.lemmas.Option.{none-some}
use Rattle.std.specs.Int.{cast_signed, w32}
use Rattle.std.specs.List.{Contains}
use Rattle.icu_char16trie.specs.UnitMaps.{at_node, at_state, IsNode, final, valued, bare}
use Rattle.icu_char16trie.specs.UnitGrammar.{spot, within, IsSound, sound_end, sound_node, sound_run, sound_run_end, sound_branch, sound_last, sound_value, sound_jump, sound_halves, IsUnitTrie, no_units, rooted}
use Rattle.icu_char16trie.specs.UnitGrammar.{GrammarPart as Rule}
use Rattle.icu_char16trie.specs.UnitPartSteps.{at_node as node_of, bounded, part_for, run_on, part_step}
use Rattle.icu_char16trie.specs.UnitReadingOrder.{Job, extended, onward, noted, HasRoom, jobs_of, Reads, done, on, StopsIn, here, beyond}
use Rattle.icu_char16trie.specs.declared.node.Match.{Match}
use Rattle.icu_char16trie.specs.declared.node.Target.TheVariants.{Value, Node}
use Rattle.icu_char16trie.specs.declared.node.State.{State}
use Rattle.icu_char16trie.specs.declared.node.State.TheVariants as state
use Rattle.icu_char16trie.specs.declared.reader.part.Bounded.{Bounded}
use Rattle.icu_char16trie.specs.declared.reader.part.Part.{Part}
use Rattle.icu_char16trie.specs.declared.reader.part.Part.TheVariants as part
use Rattle.icu_char16trie.specs.declared.reader.part.Step.{Step}
use Rattle.icu_char16trie.proofs.Cursors.SearchLemmas.{if_leb, if_not_leb}
use Rattle.icu_char16trie.proofs.Cursors.BranchLemmas.{some-same}
use Rattle.icu_char16trie.proofs.Reading.PartStepLemmas.{node_stands, run_stands, last_stands, entry_stands, halves_stand, step_of}
use Rattle.icu_char16trie.specs.UnitPairs.{Has}
use Rattle.icu_char16trie.proofs.Grammar.ListingLemmas.{Pair, behind_unit, with_value, listing}
use Rattle.icu_char16trie.proofs.Reading.SoundReadsLemmas.{under, under-append, under-unit}

-- some key is listed
abbrev HasFirst : List Pair → Type 0
HasFirst pairs = (pair : Pair) × (rest : List Pair) × (pairs ≡ pair ∷ rest)

first-behind : (unit : ℕ) (xs : List Pair) → HasFirst xs → HasFirst (behind_unit unit xs)
first-behind unit xs h = ((unit ∷ h.0.0, h.0.1), behind_unit unit h.1, ap (λ xs. behind_unit unit xs) h.2)

first-append : (xs ys : List Pair) → HasFirst xs → HasFirst (xs ++ ys)
first-append xs ys h = (h.0, h.1 ++ ys, ap (λ xs. xs ++ ys) h.2)

first-valued : (value : Option ℕ) (xs : List Pair) → HasFirst xs → HasFirst (with_value value xs)
first-valued None xs h = h
first-valued (Some value) xs h = (([], cast_signed w32 value), xs, refl)

has-first : (units : List ℕ) {rule : Rule} (s : IsSound units rule) → HasFirst (listing units s)
unfolding listing
has-first units (sound_end index value node) = (([], cast_signed w32 value), [], refl)
has-first units (sound_node index value next node rest) = first-valued value (listing units rest) (has-first units rest)
has-first units (sound_run run unit e more rest) = first-behind unit (listing units rest) (has-first units rest)
has-first units (sound_run_end run unit e few rest) = first-behind unit (listing units rest) (has-first units rest)
has-first units (sound_branch branch rest) = has-first units rest
has-first units (sound_last branch low high unit one e above below rest) = first-behind unit (listing units rest) (has-first units rest)
has-first units (sound_value branch low high value entry more few e to above below rest) = ((entry.unit ∷ [], cast_signed w32 value), listing units rest, refl)
has-first units (sound_jump branch low high index entry more few e to above below node rest) =
    first-append (behind_unit entry.unit (listing units node)) (listing units rest) (first-behind entry.unit (listing units node) (has-first units node))
has-first units (sound_halves branch low high middle index jump many e d lands above below first second) =
    first-append (listing units first) (listing units second) (has-first units first)

-- each key, after this number of units, is within the limit
abbrev pub Fits : ℕ → ℕ → List Pair → Type 0
Fits limit count [] = Unit {0}
Fits limit count (pair ∷ rest) = (count + length pair.0 ≤ limit) × Fits limit count rest

fits-unit : (limit count unit : ℕ) (xs : List Pair) → Fits limit count (behind_unit unit xs) → Fits limit (count + 1) xs
fits-unit limit count unit [] h = tt
fits-unit limit count unit (x ∷ xs) h = let first = h.0 in (omega (arith, first), fits-unit limit count unit xs h.1)

fits-left : (limit count : ℕ) (xs ys : List Pair) → Fits limit count (xs ++ ys) → Fits limit count xs
fits-left limit count [] ys h = tt
fits-left limit count (x ∷ xs) ys h = (h.0, fits-left limit count xs ys h.1)

fits-right : (limit count : ℕ) (xs ys : List Pair) → Fits limit count (xs ++ ys) → Fits limit count ys
fits-right limit count [] ys h = h
fits-right limit count (x ∷ xs) ys h = fits-right limit count xs ys h.1

fits-valued : (limit count : ℕ) (value : Option ℕ) (xs : List Pair) → Fits limit count (with_value value xs) → Fits limit count xs
fits-valued limit count None xs h = h
fits-valued limit count (Some value) xs h = h.1

room-left : (limit count unit : ℕ) (xs : List Pair) → HasFirst xs → Fits limit count (behind_unit unit xs) → count < limit
room-left limit count unit xs first h =
    let one = (subst (λ xs. Fits limit count (behind_unit unit xs)) first.2 h).0 in omega (arith, one)

fits-longer : (limit : ℕ) (key : List ℕ) (unit : ℕ) (xs : List Pair) → Fits limit (length key + 1) xs → Fits limit (length (key ++ (unit ∷ []))) xs
fits-longer limit key unit xs h = subst (λ n. Fits limit n xs) (sym (length-append key (unit ∷ []))) h

-- the part of a rule
abbrev part_of : Rule → Part
part_of (spot (at_node index)) = part.Node index
part_of (spot (at_state (state.Match run))) = part.Run run
part_of (spot (at_state (state.Branch branch))) = part.Branch (record { branch = branch; low = 0; high = 0x10000 })
part_of (spot (at_state (state.Stopped))) = part.Node 0
part_of (within branch low high) = part.Branch (record { branch = branch; low = low; high = high })

module _ (units : List ℕ) (limit : ℕ) where
  -- units that keep the grammar are read, where no key is too long
  abbrev ReadsOn : (rule : Rule) (pairs : List Pair) → Type 0
  ReadsOn rule pairs = (key : List ℕ) (rest : List Job) (back : List Pair) → Fits limit (length key) pairs → Reads units limit rest back
      → Reads units limit ((key, part_of rule) ∷ rest) (under key pairs ++ back)

  node-read : (index : ℕ) (value : Option ℕ) (next : State) (pairs : List Pair) → IsNode units index value (Some next) → HasFirst pairs
      → IsSound units (spot (at_state next)) → ReadsOn (spot (at_state next)) pairs → ReadsOn (spot (at_node index)) (with_value value pairs)
  node-read index value (state.Stopped) pairs node first sound f = elim sound [ ]
  node-read index None (state.Match run) pairs node first sound f = λ key rest back fits more.
      on key (part.Node index) (node_of None (Some (part.Run run))) rest (under key pairs ++ back)
      (step_of units (node_stands index None (Some (state.Match run)) node)) tt (f key rest back fits more)
  node-read index (Some value) (state.Match run) pairs node first sound f = λ key rest back fits more.
      subst (λ key'. Reads units limit ((key, part.Node index) ∷ rest) ((key', cast_signed w32 value) ∷ (under key pairs ++ back))) (sym (append-nil key))
      (on key (part.Node index) (node_of (Some value) (Some (part.Run run))) rest (under key pairs ++ back)
      (step_of units (node_stands index (Some value) (Some (state.Match run)) node)) tt (f key rest back fits.1 more))
  node-read index None (state.Branch branch) pairs node first sound f = λ key rest back fits more.
      on key (part.Node index) (node_of None (part_for (state.Branch branch))) rest (under key pairs ++ back)
      (step_of units (node_stands index None (Some (state.Branch branch)) node)) tt (f key rest back fits more)
  node-read index (Some value) (state.Branch branch) pairs node first sound f = λ key rest back fits more.
      subst (λ key'. Reads units limit ((key, part.Node index) ∷ rest) ((key', cast_signed w32 value) ∷ (under key pairs ++ back))) (sym (append-nil key))
      (on key (part.Node index) (node_of (Some value) (part_for (state.Branch branch))) rest (under key pairs ++ back)
      (step_of units (node_stands index (Some value) (Some (state.Branch branch)) node)) tt (f key rest back fits.1 more))

  behind-read : (key : List ℕ) (unit : ℕ) (pairs back : List Pair) (jobs : List Job) → Reads units limit jobs (under (key ++ (unit ∷ [])) pairs ++ back)
      → Reads units limit jobs (under key (behind_unit unit pairs) ++ back)
  behind-read key unit pairs back jobs h = subst (λ pairs. Reads units limit jobs (pairs ++ back)) (under-unit key unit pairs) h

  run-read : (run : Match) (unit : ℕ) (next : Part) (pairs : List Pair) → slice_get units run.index ≡ Some unit → HasFirst pairs → run_on run ≡ next
      → (key : List ℕ) (rest : List Job) (back : List Pair) → Fits limit (length key) (behind_unit unit pairs)
      → Reads units limit ((key ++ (unit ∷ []), next) ∷ rest) (under (key ++ (unit ∷ [])) pairs ++ back)
      → Reads units limit ((key, part.Run run) ∷ rest) (under key (behind_unit unit pairs) ++ back)
  run-read run unit next pairs e first same key rest back fits more =
      on key (part.Run run) (record { unit = Some unit; value = None; next = Some (run_on run); rest = None }) rest (under key (behind_unit unit pairs) ++ back)
      (step_of units (run_stands run unit e)) (room-left limit (length key) unit pairs first fits)
      (subst (λ next. Reads units limit ((key ++ (unit ∷ []), next) ∷ rest) (under key (behind_unit unit pairs) ++ back)) (sym same)
      (behind-read key unit pairs back ((key ++ (unit ∷ []), next) ∷ rest) more))

  pub sound-reads : {rule : Rule} (s : IsSound units rule) → ReadsOn rule (listing units s)
  unfolding listing
  sound-reads (sound_end index value node) = λ key rest back fits more.
      subst (λ key'. Reads units limit ((key, part.Node index) ∷ rest) ((key', cast_signed w32 value) ∷ back)) (sym (append-nil key))
      (on key (part.Node index) (node_of (Some value) None) rest back (step_of units (node_stands index (Some value) None node)) tt more)
  sound-reads (sound_node index value next node rest) = node-read index value next (listing units rest) node (has-first units rest) rest (sound-reads rest)
  sound-reads (sound_run run unit e more rest) = λ key jobs back fits h.
      let go : Part = part.Run (record { left = run.left - 1; index = run.index + 1 }) in
      run-read run unit go (listing units rest) e (has-first units rest) (if_not_leb run.left 1 (part.Node (run.index + 1)) go more) key jobs back fits
      (sound-reads rest (key ++ (unit ∷ [])) jobs back (fits-longer limit key unit (listing units rest) (fits-unit limit (length key) unit (listing units rest) fits)) h)
  sound-reads (sound_run_end run unit e few rest) = λ key jobs back fits h.
      let go : Part = part.Run (record { left = run.left - 1; index = run.index + 1 }) in
      run-read run unit (part.Node (run.index + 1)) (listing units rest) e (has-first units rest) (if_leb run.left 1 (part.Node (run.index + 1)) go few) key jobs back fits
      (sound-reads rest (key ++ (unit ∷ [])) jobs back (fits-longer limit key unit (listing units rest) (fits-unit limit (length key) unit (listing units rest) fits)) h)
  sound-reads (sound_branch branch rest) = sound-reads rest
  sound-reads (sound_last branch low high unit one e above below rest) = λ key jobs back fits h.
      let b : Bounded = record { branch = branch; low = low; high = high } in
      on key (part.Branch b) (record { unit = Some unit; value = None; next = Some (part.Node (branch.index + 1)); rest = None }) jobs
      (under key (behind_unit unit (listing units rest)) ++ back) (step_of units (last_stands b unit one e above below))
      (room-left limit (length key) unit (listing units rest) (has-first units rest) fits)
      (behind-read key unit (listing units rest) back ((key ++ (unit ∷ []), part.Node (branch.index + 1)) ∷ jobs)
      (sound-reads rest (key ++ (unit ∷ [])) jobs back (fits-longer limit key unit (listing units rest) (fits-unit limit (length key) unit (listing units rest) fits)) h))
  sound-reads (sound_value branch low high value entry more few e to above below rest) = λ key jobs back fits h.
      let b : Bounded = record { branch = branch; low = low; high = high } in
      let others : Part = bounded (branch.count - 1) entry.number.end (entry.unit + 1) high in
      let room = fits.0 in
      on key (part.Branch b) (record { unit = Some entry.unit; value = Some value; next = None; rest = Some others }) jobs
      (under key (listing units rest) ++ back) (step_of units (entry_stands b entry (Value value) more few e to above below))
      (omega (arith, room))
      (sound-reads rest key jobs back fits.1 h)
  sound-reads (sound_jump branch low high index entry more few e to above below node rest) = λ key jobs back fits h.
      let b : Bounded = record { branch = branch; low = low; high = high } in
      let others : Part = bounded (branch.count - 1) entry.number.end (entry.unit + 1) high in
      let first : List Pair = behind_unit entry.unit (listing units node) in
      let fits-first : Fits limit (length key) first = fits-left limit (length key) first (listing units rest) fits in
      let back-read : Reads units limit ((key, others) ∷ jobs) (under key (listing units rest) ++ back) =
      sound-reads rest key jobs back (fits-right limit (length key) first (listing units rest) fits) h in
      let whole : Reads units limit ((key ++ (entry.unit ∷ []), part.Node index) ∷ (key, others) ∷ jobs) (under key first ++ (under key (listing units rest) ++ back)) =
      behind-read key entry.unit (listing units node) (under key (listing units rest) ++ back) ((key ++ (entry.unit ∷ []), part.Node index) ∷ (key, others) ∷ jobs)
      (sound-reads node (key ++ (entry.unit ∷ [])) ((key, others) ∷ jobs) (under key (listing units rest) ++ back)
      (fits-longer limit key entry.unit (listing units node) (fits-unit limit (length key) entry.unit (listing units node) fits-first)) back-read) in
      on key (part.Branch b) (record { unit = Some entry.unit; value = None; next = Some (part.Node index); rest = Some others }) jobs
      (under key (first ++ listing units rest) ++ back) (step_of units (entry_stands b entry (Node index) more few e to above below))
      (room-left limit (length key) entry.unit (listing units node) (has-first units node) fits-first)
      (subst (λ pairs. Reads units limit ((key ++ (entry.unit ∷ []), part.Node index) ∷ (key, others) ∷ jobs) pairs)
      (sym (ap (λ front. front ++ back) (under-append key first (listing units rest)) ∙ append_assoc (under key first) (under key (listing units rest)) back)) whole)
  sound-reads (sound_halves branch low high middle index jump many e d lands above below first second) = λ key jobs back fits h.
      let b : Bounded = record { branch = branch; low = low; high = high } in
      let one : Part = bounded (branch.count / 2) index low middle in
      let other : Part = bounded (branch.count - branch.count / 2) jump.end middle high in
      let back-read : Reads units limit ((key, other) ∷ jobs) (under key (listing units second) ++ back) =
      sound-reads second key jobs back (fits-right limit (length key) (listing units first) (listing units second) fits) h in
      let whole : Reads units limit ((key, one) ∷ (key, other) ∷ jobs) (under key (listing units first) ++ (under key (listing units second) ++ back)) =
      sound-reads first key ((key, other) ∷ jobs) (under key (listing units second) ++ back) (fits-left limit (length key) (listing units first) (listing units second) fits) back-read in
      on key (part.Branch b) (record { unit = None; value = None; next = Some one; rest = Some other }) jobs
      (under key (listing units first ++ listing units second) ++ back) (step_of units (halves_stand b middle index jump many e d lands above below)) tt
      (subst (λ pairs. Reads units limit ((key, one) ∷ (key, other) ∷ jobs) pairs)
      (sym (ap (λ front. front ++ back) (under-append key (listing units first) (listing units second)) ∙ append_assoc (under key (listing units first)) (under key (listing units second)) back)) whole)

-- reading does not both end and stop
ok-err : {step : Step} {index : ℕ} (r : Result Step ℕ) → r ≡ Ok step → r ≡ Err index → ⊥
ok-err r e f = cc

ok-same : (r : Result Step ℕ) (step other : Step) → r ≡ Ok step → r ≡ Ok other → step ≡ other
ok-same r step other e f = cc

pub reads_stops : (units : List ℕ) (limit index : ℕ) {jobs : List Job} {pairs : List Pair} → Reads units limit jobs pairs → StopsIn units limit jobs index → ⊥
reads_stops units limit index done h = elim h [ ]
reads_stops units limit index (on key p step rest pairs e room more) (here key' p' rest' index' stuck) =
    ⊎_elim (λ err. ok-err (part_step units p) e err)
    (λ full. full.2 (subst (λ (step : Step). HasRoom limit key step.unit) (ok-same (part_step units p) step full.0 e full.1) room)) stuck
reads_stops units limit index (on key p step rest pairs e room more) (beyond key' p' step' rest' index' e' room' stops) =
    reads_stops units limit index more (subst (λ step. StopsIn units limit (jobs_of key step ++ rest) index) (ok-same (part_step units p) step' step e' e) stops)

-- each key is within the limit
abbrev pub Short : ℕ → List Pair → Type 0
Short limit [] = Unit {0}
Short limit (pair ∷ rest) = (length pair.0 ≤ limit) × Short limit rest

abbrev pub ShortJobs : ℕ → List Job → Type 0
ShortJobs limit [] = Unit {0}
ShortJobs limit (job ∷ rest) = (length job.0 ≤ limit) × ShortJobs limit rest

short-extended : (limit : ℕ) (key : List ℕ) (unit : Option ℕ) → HasRoom limit key unit → length key ≤ limit → length (extended key unit) ≤ limit
short-extended limit key None room h = h
short-extended limit key (Some unit) room h = omega (arith, room, length-append key (unit ∷ []))

short-onward : (limit : ℕ) (key : List ℕ) (part : Option Part) (jobs : List Job) → length key ≤ limit → ShortJobs limit jobs → ShortJobs limit (onward key part ++ jobs)
short-onward limit key None jobs h k = k
short-onward limit key (Some part) jobs h k = (h, k)

short-noted : (limit : ℕ) (key : List ℕ) (value : Option ℕ) (pairs : List Pair) → length key ≤ limit → Short limit pairs → Short limit (noted key value ++ pairs)
short-noted limit key None pairs h k = k
short-noted limit key (Some value) pairs h k = (h, k)

pub reads_short : (units : List ℕ) (limit : ℕ) {jobs : List Job} {pairs : List Pair} → Reads units limit jobs pairs → ShortJobs limit jobs → Short limit pairs
reads_short units limit done h = tt
reads_short units limit (on key p step rest pairs e room more) h =
    let longer = short-extended limit key step.unit room h.0 in
    short-noted limit (extended key step.unit) step.value pairs longer
    (reads_short units limit more
    (subst (λ jobs. ShortJobs limit jobs) (sym (append_assoc (onward (extended key step.unit) step.next) (onward key step.rest) rest))
    (short-onward limit (extended key step.unit) step.next (onward key step.rest ++ rest) longer (short-onward limit key step.rest rest h.0 h.1))))

pub short-has : (limit : ℕ) (pairs : List Pair) (key : List ℕ) (number : ℤ) → Short limit pairs → Has pairs key number → length key ≤ limit
short-has limit [] key number h k = absurd k
short-has limit (x ∷ xs) key number h k =
    ⊎_elim (λ here. subst (λ key. length key ≤ limit) here.0 h.0) (λ rest. short-has limit xs key number h.1 rest) k

pub fits-all : (limit : ℕ) (pairs : List Pair) → ((key : List ℕ) (number : ℤ) → Has pairs key number → length key ≤ limit) → Fits limit 0 pairs
fits-all limit [] f = tt
fits-all limit (x ∷ xs) f =
    let first = f x.0 x.1 (inl (refl, refl)) in
    (omega (arith, first), fits-all limit xs (λ key number h. f key number (inr h)))

pub has_contains : (pairs : List Pair) (key : List ℕ) (number : ℤ) → Has pairs key number → Contains pairs (key, number)
has_contains [] key number h = absurd h
has_contains (x ∷ xs) key number h =
    ⊎_elim
    (λ here. Contains-append_left (x ∷ []) xs (key, number)
    (subst (λ key. Contains (x ∷ []) (key, number)) here.0 (subst (λ number. Contains (x ∷ []) (x.0, number)) here.1 (Contains-push [] x))))
    (λ rest. Contains-append_right (x ∷ []) xs (key, number) (has_contains xs key number rest)) h

contains-nil : (pair : Pair) → Contains [] pair → ⊥
contains-nil pair h = let less : h.0 < 0 = h.1 in omega (arith, less)

pub contains_has : (pairs : List Pair) (pair : Pair) → Contains pairs pair → Has pairs pair.0 pair.1
contains_has [] pair h = absurd (contains-nil pair h)
contains_has (x ∷ xs) pair h =
    ⊎_elim
    (λ (first : Contains (x ∷ []) pair). ⊎_elim
    (λ none. absurd (contains-nil pair none))
    (λ (same : x ≡ pair). inl (ap (λ (p : Pair). p.0) same, ap (λ (p : Pair). p.1) same))
    (Contains-push_cases [] x pair first))
    (λ (rest : Contains xs pair). inr (contains_has xs pair rest))
    (Contains-append_cases (x ∷ []) xs pair h)

-- the first node of units that begin with no value
module _ (units : List ℕ) (lead : ℕ) (is : slice_get units 0 ≡ Some lead) where
  pub root-trie : lead < 0x40 → IsSound units (spot (at_node 0)) → IsUnitTrie units
  root-trie low (sound_end index value (final there l number e high reads)) = let same : l ≡ lead = some-same l lead (sym e ∙ is) in absurd (omega (arith, same, high, low))
  root-trie low (sound_node index value next (valued there l number n e below high reads opens) rest) =
      let same : l ≡ lead = some-same l lead (sym e ∙ is) in absurd (omega (arith, same, high, low))
  root-trie low (sound_node index value next (bare there l n e below opens) rest) = rooted next (bare 0 l next e below opens) rest

  pub trie-root : IsUnitTrie units → (lead < 0x40) × IsSound units (spot (at_node 0))
  trie-root (no_units e) = absurd (none-some lead (sym (ap (λ units. slice_get units 0) e) ∙ is))
  trie-root (rooted next (bare there l n e below opens) rest) =
      let same : l ≡ lead = some-same l lead (sym e ∙ is) in
      (omega (arith, same, below), sound_node 0 None next (bare 0 l next e below opens) rest)
