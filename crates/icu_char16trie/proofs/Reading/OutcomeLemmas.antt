-- The list of units that were read, and units that are refused.
use Rattle.std.proofs.Common.{◌≡◌, ◌≢◌, ℕ, ℤ, ◌<◌, ◌≤◌, ltb, if◌then◌else◌, ◌++◌, List, [], ◌∷◌, map, slice_get, Option, Some, None, refl, ap, ◌∙◌, sym, subst, arith, ◌↔◌}
use Rattle.std.specs.Cmp.Lexicographic.{slice_cmp}
use Rattle.std.specs.List.Sorted.{IsStrictlySortedBy}
use Rattle.std.specs.Ordering.{nat_cmp}
use Rattle.std.proofs.lemmas.List.{append-nil}
use Rattle.std.proofs.lemmas.Option.{none-some}
use Rattle.icu_char16trie.specs.UnitNumbers.{after}
use Rattle.icu_char16trie.specs.UnitSteps.{opened, or_stopped, start}
use Rattle.icu_char16trie.specs.UnitMaps.{at_node, at_state, MapsKey, ends, goes_on, IsNode, final, valued, bare, IsWhole}
use Rattle.icu_char16trie.specs.UnitGrammar.{spot, IsSound, IsUnitTrie, no_units, rooted, IsWithin, IsListing}
use Rattle.icu_char16trie.specs.UnitReadingOrder.{Job, Reads, done, StopsIn, StopsAt, in_parts, HasRead}
use Rattle.icu_char16trie.specs.declared.node.State.{State}
use Rattle.icu_char16trie.specs.declared.reader.part.Part.TheVariants as part
use Rattle.icu_char16trie.proofs.Cursors.SearchLemmas.{if_ltb}
use Rattle.icu_char16trie.proofs.Cursors.BranchLemmas.{some-same}
use Rattle.icu_char16trie.proofs.Cursors.StepLemmas.{stopped_none}
use Rattle.icu_char16trie.proofs.Grammar.SoundLemmas.{leads_on}
use Rattle.icu_char16trie.specs.UnitPairs.{Has}
use Rattle.icu_char16trie.proofs.Grammar.ListingLemmas.{Pair, listing, listed_spelled}
use Rattle.icu_char16trie.proofs.Grammar.CompleteListingLemmas.{node_unique, lists_all, rising, rising_sorted}
use Rattle.icu_char16trie.proofs.Reading.SoundReadsLemmas.{under, under-nil, reads-sound}
use Rattle.icu_char16trie.proofs.Reading.CompleteReadsLemmas.{sound-reads, reads_stops, reads_short, Short, short-has, fits-all, has_contains, contains_has, root-trie, trie-root}

abbrev pub root : List Job
root = ([], part.Node 0) ∷ []

-- after a first node with no value, all that it spells is spelled
module _ (units : List ℕ) where
  start-is : (next : State) → IsNode units 0 None (Some next) → start units ≡ next
  start-is next (bare index lead n e low opens) =
      ap (λ found. or_stopped (after found (λ lead. if ltb lead 0x40 then opened units lead 1 else None))) e
      ∙ ap (λ found. or_stopped found) (if_ltb lead 0x40 (opened units lead 1) None low)
      ∙ ap (λ found. or_stopped found) opens

  from-root : (next : State) {key : List ℕ} {number : ℤ} → IsNode units 0 None (Some next) → MapsKey units (at_node 0) key number → MapsKey units (at_state next) key number
  from-root next node (ends index value other is) = absurd (none-some value (node_unique units node is).0)
  from-root next node (goes_on index value other key number is rest) =
      subst (λ next. MapsKey units (at_state next) key number) (sym (some-same next other (node_unique units node is).1)) rest

  behind-root : (next : State) (key : List ℕ) (number : ℤ) → IsNode units 0 None (Some next) → MapsKey units (at_state next) key number ↔ MapsKey units (at_node 0) key number
  behind-root next key number node = ((λ h. goes_on 0 None next key number node h), (λ h. from-root next node h))

  no-node : units ≡ [] → {value : Option ℕ} {next : Option State} → IsNode units 0 value next → ⊥
  no-node none (final index lead number e high reads) = none-some lead (sym (ap (λ units. slice_get units 0) none) ∙ e)
  no-node none (valued index lead number next e low high reads opens) = none-some lead (sym (ap (λ units. slice_get units 0) none) ∙ e)
  no-node none (bare index lead next e low opens) = none-some lead (sym (ap (λ units. slice_get units 0) none) ∙ e)

  no-spells : units ≡ [] → {key : List ℕ} {number : ℤ} → MapsKey units (at_node 0) key number → ⊥
  no-spells none (ends index value next node) = no-node none node
  no-spells none (goes_on index value next key number node rest) = no-node none node

  empty-spells : units ≡ [] → (key : List ℕ) (number : ℤ) → MapsKey units (at_state (start units)) key number ↔ MapsKey units (at_node 0) key number
  empty-spells none key number = (
    (λ h. absurd (stopped_none units key number (subst (λ s. MapsKey units (at_state s) key number) (ap (λ units. start units) none) h))),
    (λ h. absurd (no-spells none h)),
  )

  pub start-spells : IsUnitTrie units → (key : List ℕ) (number : ℤ) → MapsKey units (at_state (start units)) key number ↔ MapsKey units (at_node 0) key number
  start-spells (no_units e) key number = empty-spells e key number
  start-spells (rooted next node rest) key number =
      subst (λ s. MapsKey units (at_state s) key number ↔ MapsKey units (at_node 0) key number) (sym (start-is next node)) (behind-root next key number node)

  start-whole : IsUnitTrie units → units ≢ [] → IsWhole units (at_state (start units))
  start-whole (no_units e) some = absurd (some e)
  start-whole (rooted next node rest) some = subst (λ s. IsWhole units (at_state s)) (sym (start-is next node)) (leads_on units rest)

pub listing_of : (units : List ℕ) (limit lead : ℕ) (pairs : List Pair) → slice_get units 0 ≡ Some lead → lead < 0x40 → Reads units limit root pairs → IsListing units limit pairs
listing_of units limit lead pairs is low reads =
    let found = reads-sound units limit reads in
    let sound : IsSound units (spot (at_node 0)) = found.0 in
    let same : pairs ≡ listing units sound =
    found.3 ∙ ap (λ back. under [] (listing units sound) ++ back) found.2 ∙ append-nil (under [] (listing units sound)) ∙ under-nil (listing units sound) in
    let trie : IsUnitTrie units = root-trie units lead is low sound in
    let short : Short limit pairs = reads_short units limit reads (omega arith, tt) in
    record {
      trie = trie;
      entries = λ key number. (
        (λ h. listed_spelled units sound key number (subst (λ pairs. Has pairs key number) same (contains_has pairs (key, number) h))),
        (λ h. has_contains pairs key number (subst (λ pairs. Has pairs key number) (sym same) (lists_all units sound key number h))),
      );
      sorted = subst (λ pairs. IsStrictlySortedBy (slice_cmp nat_cmp) (map (λ (pair : Pair). pair.0) pairs)) (sym same)
          (rising_sorted (listing units sound) (rising units sound));
      bound = λ key number h. short-has limit pairs key number short (subst (λ pairs. Has pairs key number) (sym same) (lists_all units sound key number h));
      from_start = start-spells units trie;
      whole = start-whole units trie;
    }

-- units that are refused break the grammar or spell a longer key
pub refused : (units : List ℕ) (limit lead index : ℕ) → slice_get units 0 ≡ Some lead → StopsIn units limit root index → IsUnitTrie units → IsWithin units limit → ⊥
refused units limit lead index is stops trie bound =
    let sound : IsSound units (spot (at_node 0)) = (trie-root units lead is trie).1 in
    reads_stops units limit index
    (sound-reads units limit sound [] [] [] (fits-all limit (listing units sound) (λ key number h. bound key number (listed_spelled units sound key number h))) done)
    stops

pub refused_root : (units : List ℕ) (limit lead : ℕ) → slice_get units 0 ≡ Some lead → 0x40 ≤ lead → IsUnitTrie units → IsWithin units limit → ⊥
refused_root units limit lead is high trie bound = let low = (trie-root units lead is trie).0 in omega (arith, high, low)

no-units : (units : List ℕ) → slice_get units 0 ≡ None → units ≡ []
no-units [] e = refl
no-units (unit ∷ units) e = absurd (none-some unit (sym e))

-- no units spell nothing
pub empty_listing : (units : List ℕ) (limit : ℕ) → slice_get units 0 ≡ None → IsListing units limit []
unfolding IsStrictlySortedBy
empty_listing units limit e =
    let none : units ≡ [] = no-units units e in
    record {
      trie = no_units none;
      entries = λ key number. ((λ h. absurd (contains_has [] (key, number) h)), (λ h. absurd (no-spells units none h)));
      sorted = tt;
      bound = λ key number h. absurd (no-spells units none h);
      from_start = empty-spells units none;
      whole = λ some. absurd (some none);
    }

-- what is to be read at first
pub first_jobs : (left before : List Job) (key : List ℕ) → left ≡ (key, part.Node 0) ∷ before → key ≡ [] → before ≡ [] → left ≡ root
first_jobs left before key e none empty = e ∙ ap (λ key. (key, part.Node 0) ∷ before) none ∙ ap (λ before. ([], part.Node 0) ∷ before) empty

module _ (units : List ℕ) (limit lead : ℕ) (left : List Job) (is : slice_get units 0 ≡ Some lead) (low : lead < 0x40) (first : left ≡ root) where
  pub listing_read : (read now list : List Pair) → read ≡ [] → HasRead units limit left read now → list ≡ now → IsListing units limit list
  listing_read read now list none h same =
      subst (λ list. IsListing units limit list) (sym (same ∙ h.2 ∙ ap (λ read. read ++ h.0) none))
      (listing_of units limit lead h.0 is low (subst (λ left. Reads units limit left h.0) first h.1))

  pub stops_read : (index : ℕ) → StopsIn units limit left index → StopsAt units limit index
  stops_read index h = in_parts lead index is low (subst (λ left. StopsIn units limit left index) first h)

  pub refused_read : (index : ℕ) → StopsIn units limit left index → IsUnitTrie units → IsWithin units limit → ⊥
  refused_read index h = refused units limit lead index is (subst (λ left. StopsIn units limit left index) first h)
