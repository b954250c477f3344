-- What the first node of a unit trie comes to is what its keys are folded to.
use Rattle.std.proofs.Common.{◌≡◌, ℕ, ℤ, ◌+◌, ◌<◌, ◌≤◌, ◌⊎◌, ◌↔◌, ◌++◌, Bool, true, false, List, [], ◌∷◌, length, slice_get, Option, Some, None, Ok, refl, ap, ◌∙◌, sym, subst, arith, inl, inr, ⊎_elim, append_assoc, length-append}
use Rattle.std.specs.Prelude.{fold}
use Rattle.std.specs.Int.{cast_signed, w32}
use Rattle.std.specs.List.{Contains}
use Rattle.std.specs.Option.{IfSome}
use Rattle.std.proofs.lemmas.List.{append-nil}
use Rattle.std.proofs.lemmas.List.Elements.{Contains-append_left, Contains-append_right, Contains-append_cases, Contains-push, Contains-push_cases}
use Rattle.std.proofs.lemmas.Option.{none-some}
use Rattle.icu_char16trie.specs.UnitGrammar.{spot, IsSound, IsUnitTrie, IsListing}
use Rattle.icu_char16trie.specs.UnitMaps.{MapsKey, at_node}
use Rattle.icu_char16trie.specs.UnitPartSteps.{part_step, part_index}
use Rattle.icu_char16trie.specs.UnitReadingOrder.{Job as Reading, HasRoom, Reads, done, on, extended, jobs_of, noted, onward as onward_of, pairs_of}
use Rattle.icu_char16trie.specs.KeyFolds.{AreFolded, IsReadable, readable, Spells, spelled_here, spelled_next, spelled_rest, Finds, HasEnded}
use Rattle.icu_char16trie.specs.declared.reader.part.Part.{Part}
use Rattle.icu_char16trie.specs.declared.reader.part.Part.TheVariants as part
use Rattle.icu_char16trie.specs.declared.reader.part.Step.{Step}
use Rattle.icu_char16trie.proofs.Cursors.BranchLemmas.{some-same}
use Rattle.icu_char16trie.proofs.Grammar.ListingLemmas.{Pair, listing}
use Rattle.icu_char16trie.proofs.Reading.CompleteReadsLemmas.{Fits, sound-reads, trie-root}
use Rattle.icu_char16trie.proofs.Reading.FoldLemmas.{contains_none, ways}
use Rattle.icu_char16trie.proofs.Reading.OutcomeLemmas.{listing_of}
use Rattle.icu_char16trie.proofs.Reading.PartStepLemmas.{stands}
use Rattle.icu_char16trie.proofs.Reading.ProgressLemmas.{ahead}

-- ## Parts that are read can be read

abbrev ReadableJobs : List ℕ → List Reading → Type 0
ReadableJobs units [] = Unit {0}
ReadableJobs units (job ∷ rest) = IsReadable units job.1 × ReadableJobs units rest

abbrev Behind : List ℕ → Option Part → Type 0
Behind units o = (q : Part) → o ≡ Some q → IsReadable units q

none-behind : (units : List ℕ) → Behind units None
none-behind units q e = absurd (none-some q e)

some-behind : (units : List ℕ) (p : Part) → IsReadable units p → Behind units (Some p)
some-behind units p h q e = subst (λ q. IsReadable units q) (some-same p q e) h

parted : (units : List ℕ) (key longer : List ℕ) (next beside : Option Part) (rest : List Reading) → ReadableJobs units ((onward_of longer next ++ onward_of key beside) ++ rest)
    → Behind units next × (Behind units beside × ReadableJobs units rest)
parted units key longer None None rest h = (none-behind units, (none-behind units, h))
parted units key longer (Some next) None rest h = (some-behind units next h.0, (none-behind units, h.1))
parted units key longer None (Some beside) rest h = (none-behind units, (some-behind units beside h.0, h.1))
parted units key longer (Some next) (Some beside) rest h = (some-behind units next h.0, (some-behind units beside h.1.0, h.1.1))

reads_readable : (units : List ℕ) (limit : ℕ) {jobs : List Reading} {pairs : List Pair} → Reads units limit jobs pairs → ReadableJobs units jobs
reads_readable units limit done = tt
reads_readable units limit (on key p step rest pairs e room more) =
    let all = parted units key (extended key step.unit) step.next step.rest rest (reads_readable units limit more) in
    (readable p step e all.0 all.1.0, all.1.1)

-- as long as all keys together
abbrev total : List Pair → ℕ
total [] = 0
total (pair ∷ rest) = length pair.0 + total rest

fits-total : (limit : ℕ) (pairs : List Pair) → total pairs ≤ limit → Fits limit 0 pairs
fits-total limit [] h = tt
fits-total limit (pair ∷ rest) h = (omega (arith, h), fits-total limit rest (omega (arith, h)))

pub readable_root : (units : List ℕ) (lead : ℕ) → slice_get units 0 ≡ Some lead → IsUnitTrie units → IsReadable units (part.Node 0)
readable_root units lead is trie =
    let sound : IsSound units (spot (at_node 0)) = (trie-root units lead is trie).1 in
    let limit : ℕ = total (listing units sound) in
    (reads_readable units limit (sound-reads units limit sound [] [] [] (fits-total limit (listing units sound) (omega arith)) done)).0

-- ## Parts that can be read are read, and what is read is what they spell

module _ (units : List ℕ) where
  -- a part is read after the key, ahead of the rest
  record IsRead (p : Part) (key : List ℕ) (rest : List Reading) (back : List Pair) : Type 0 where
    pub pairs : List Pair
    pub reads : Reads units (length units) ((key, p) ∷ rest) (pairs ++ back)
    pub spells : (longer : List ℕ) (number : ℤ) → Contains pairs (longer, number) → (more : List ℕ) × (longer ≡ key ++ more) × Spells units p more number
    pub holds : (more : List ℕ) (number : ℤ) → Spells units p more number → Contains pairs (key ++ more, number)

  -- the same of a part, if there is one
  record AreRead (o : Option Part) (key : List ℕ) (rest : List Reading) (back : List Pair) : Type 0 where
    pub pairs : List Pair
    pub reads : Reads units (length units) (onward_of key o ++ rest) (pairs ++ back)
    pub spells : (longer : List ℕ) (number : ℤ) → Contains pairs (longer, number) → (q : Part) × (o ≡ Some q) × ((more : List ℕ) × (longer ≡ key ++ more) × Spells units q more number)
    pub holds : (q : Part) → o ≡ Some q → (more : List ℕ) (number : ℤ) → Spells units q more number → Contains pairs (key ++ more, number)

  none-read : (key : List ℕ) (rest : List Reading) (back : List Pair) → Reads units (length units) rest back → AreRead None key rest back
  none-read key rest back h = record {
    pairs = [];
    reads = h;
    spells = λ longer number in-none. absurd (contains_none (longer, number) in-none);
    holds = λ q e. absurd (none-some q e);
  }

  some-read : (p : Part) (key : List ℕ) (rest : List Reading) (back : List Pair) → IsRead p key rest back → AreRead (Some p) key rest back
  some-read p key rest back h = record {
    pairs = h.pairs;
    reads = h.reads;
    spells = λ longer number in-pairs. (p, refl, h.spells longer number in-pairs);
    holds = λ q e more number s. h.holds more number (subst (λ q. Spells units q more number) (sym (some-same p q e)) s);
  }

  room : (key : List ℕ) (unit : Option ℕ) → length key < length units → HasRoom (length units) key unit
  room key None h = tt
  room key (Some unit) h = h

  longer-by : (key : List ℕ) (unit : Option ℕ) → length (extended key unit) ≤ length key + 1
  longer-by key None = omega arith
  longer-by key (Some unit) = omega (arith, length-append key (unit ∷ []))

  extended-is : (key : List ℕ) (unit : Option ℕ) → extended key unit ≡ key ++ extended [] unit
  extended-is key None = sym (append-nil key)
  extended-is key (Some unit) = refl

  extended-on : (key : List ℕ) (unit : Option ℕ) (more : List ℕ) → extended key unit ++ more ≡ key ++ (extended [] unit ++ more)
  extended-on key unit more = ap (λ front. front ++ more) (extended-is key unit) ∙ append_assoc key (extended [] unit) more

  abbrev pair_of : List ℕ → ℤ → Pair
  pair_of key number = (key, number)

  noted-is : (key longer : List ℕ) (value : Option ℕ) (number : ℤ) → Contains (noted key value) (longer, number)
      → (v : ℕ) × (value ≡ Some v) × ((longer ≡ key) × (number ≡ cast_signed w32 v))
  noted-is key longer None number h = absurd (contains_none (longer, number) h)
  noted-is key longer (Some v) number h =
      ⊎_elim (λ (none : Contains [] (longer, number)). absurd (contains_none (longer, number) none))
      (λ (same : pair_of key (cast_signed w32 v) ≡ pair_of longer number). (v, refl, (sym (ap (λ (p : Pair). p.0) same), sym (ap (λ (p : Pair). p.1) same))))
      (Contains-push_cases [] (key, cast_signed w32 v) (longer, number) h)

  noted-has : (key : List ℕ) (value : Option ℕ) (v : ℕ) → value ≡ Some v → Contains (noted key value) (key, cast_signed w32 v)
  noted-has key value v e = subst (λ value. Contains (noted key value) (key, cast_signed w32 v)) (sym e) (Contains-push [] (key, cast_signed w32 v))

  -- a part is read by its first step
  step-read : (p : Part) (step : Step) (key : List ℕ) (rest : List Reading) (back : List Pair) → part_step units p ≡ Ok step → length key ≤ part_index p
      → (beside : AreRead step.rest key rest back) → AreRead step.next (extended key step.unit) (onward_of key step.rest ++ rest) (beside.pairs ++ back)
      → IsRead p key rest back
  step-read p step key rest back e within beside next =
      let longer : List ℕ = extended key step.unit in
      let first : List Pair = noted longer step.value in
      let a = ahead units (stands units p step e) in
      record {
        pairs = first ++ (next.pairs ++ beside.pairs);
        reads =
            subst (λ pairs. Reads units (length units) ((key, p) ∷ rest) pairs)
            (sym (append_assoc first (next.pairs ++ beside.pairs) back ∙ ap (λ pairs. first ++ pairs) (append_assoc next.pairs beside.pairs back)))
            (on key p step rest (next.pairs ++ (beside.pairs ++ back)) e (room key step.unit (omega (arith, within, a.within)))
            (subst (λ jobs. Reads units (length units) jobs (next.pairs ++ (beside.pairs ++ back)))
            (sym (append_assoc (onward_of longer step.next) (onward_of key step.rest) rest)) next.reads));
        spells = λ long number h.
            ⊎_elim
            (λ (here : Contains first (long, number)).
            let k = noted-is longer long step.value number here in (
              extended [] step.unit,
              k.2.0 ∙ extended-is key step.unit,
              subst (λ number. Spells units p (extended [] step.unit) number) (sym k.2.1) (spelled_here p step k.0 e k.1),
            ))
            (λ (more : Contains (next.pairs ++ beside.pairs) (long, number)).
            ⊎_elim
            (λ (on-next : Contains next.pairs (long, number)).
            let k = next.spells long number on-next in
            (extended [] step.unit ++ k.2.0, k.2.1 ∙ extended-on key step.unit k.2.0, spelled_next p step k.0 k.2.0 number e k.1 k.2.2))
            (λ (on-rest : Contains beside.pairs (long, number)).
            let k = beside.spells long number on-rest in
            (k.2.0, k.2.1, spelled_rest p step k.0 k.2.0 number e k.1 k.2.2))
            (Contains-append_cases next.pairs beside.pairs (long, number) more))
            (Contains-append_cases first (next.pairs ++ beside.pairs) (long, number) h);
        holds = λ more number s.
            ⊎_elim
            (λ (here : (value : ℕ) × (step.value ≡ Some value) × (more ≡ extended [] step.unit) × (number ≡ cast_signed w32 value)).
            Contains-append_left first (next.pairs ++ beside.pairs) (key ++ more, number)
            (subst (λ (pair : Pair). Contains first pair)
            (sym (ap (λ more. pair_of (key ++ more) number) here.2 ∙ ap (λ front. pair_of front number) (sym (extended-is key step.unit)) ∙ ap (λ number. pair_of longer number) here.3))
            (noted-has longer step.value here.0 here.1)))
            (λ (other : ((next : Part) × (step.next ≡ Some next) × (behind : List ℕ) × Spells units next behind number × (more ≡ extended [] step.unit ++ behind))
            ⊎ ((rest : Part) × (step.rest ≡ Some rest) × Spells units rest more number)).
            Contains-append_right first (next.pairs ++ beside.pairs) (key ++ more, number)
            (⊎_elim
            (λ (go : (next : Part) × (step.next ≡ Some next) × (behind : List ℕ) × Spells units next behind number × (more ≡ extended [] step.unit ++ behind)).
            Contains-append_left next.pairs beside.pairs (key ++ more, number)
            (subst (λ (pair : Pair). Contains next.pairs pair)
            (ap (λ front. pair_of front number) (extended-on key step.unit go.2) ∙ ap (λ more. pair_of (key ++ more) number) (sym go.4))
            (next.holds go.0 go.1 go.2 number go.3)))
            (λ (go : (rest : Part) × (step.rest ≡ Some rest) × Spells units rest more number).
            Contains-append_right next.pairs beside.pairs (key ++ more, number) (beside.holds go.0 go.1 more number go.2)) other))
            (ways units step e s);
      }

  -- after a key that is not longer than where the part begins
  abbrev OnRead : Part → Type 0
  OnRead p = (key : List ℕ) → length key ≤ part_index p → (rest : List Reading) (back : List Pair) → Reads units (length units) rest back → IsRead p key rest back

  on-read : (o : Option Part) → ((q : Part) → o ≡ Some q → OnRead q) → (key : List ℕ) → ((q : Part) → o ≡ Some q → length key ≤ part_index q)
      → (rest : List Reading) (back : List Pair) → Reads units (length units) rest back → AreRead o key rest back
  on-read None f key g rest back h = none-read key rest back h
  on-read (Some q) f key g rest back h = some-read q key rest back (f q refl key (g q refl) rest back h)

  ahead-of : (index : ℕ) (o : Option Part) → IfSome o (λ q. index < part_index q) → (q : Part) → o ≡ Some q → index < part_index q
  ahead-of index o h q e = subst (λ o. IfSome o (λ q. index < part_index q)) e h

  readable-read : {p : Part} → IsReadable units p → OnRead p
  readable-read (readable p step e next-on rest-on) = λ key within rest back h.
      let a = ahead units (stands units p step e) in
      let beside = on-read step.rest (λ q same. readable-read (rest-on q same)) key
      (λ q same. let k = ahead-of (part_index p) step.rest a.rest q same in omega (arith, k, within)) rest back h in
      let next = on-read step.next (λ q same. readable-read (next-on q same)) (extended key step.unit)
      (λ q same. let k = ahead-of (part_index p) step.next a.next q same in let l = longer-by key step.unit in omega (arith, k, within, l))
      (onward_of key step.rest ++ rest) (beside.pairs ++ back) beside.reads in
      step-read p step key rest back e within beside next

  -- what the first node comes to is what the keys are folded to
  module _ {A : Type 0} (onward : A → ℕ → A) (start : A) (lead : ℕ) (is : slice_get units 0 ≡ Some lead) (low : lead < 0x40) where
    pub folded_root : (results : List (A × ℤ)) → HasEnded onward units (record { part = part.Node 0; folded = start }) results true → AreFolded onward start units results
    folded_root results h =
        let r : IsRead (part.Node 0) [] [] [] = readable-read h.0 [] (omega arith) [] [] done in
        let list : IsListing units (length units) r.pairs =
        listing_of units (length units) lead r.pairs is low
        (subst (λ pairs. Reads units (length units) (([], part.Node 0) ∷ []) pairs) (append-nil r.pairs) r.reads) in
        record {
          trie = list.trie;
          bound = list.bound;
          said = λ folded number. (
            (λ k. let found = (h.1 (folded, number)).1 k in
                (found.0, (list.entries found.0 number).0 (r.holds found.0 number found.1), found.2)),
            (λ k. (h.1 (folded, number)).0
                (let found = r.spells k.0 number ((list.entries k.0 number).1 k.1) in
                (k.0, subst (λ key. Spells units (part.Node 0) key number) (sym found.1) found.2, k.2))),
          );
        }
