-- Keys and values that are tested while they are read.
use Rattle.std.proofs.Common.{◌≡◌, ℕ, ℤ, ◌<◌, ◌≤◌, slice_get, Bool, true, false, ◌&&◌, ◌++◌, ◌↔◌, IsTrue, List, [], ◌∷◌, length, Option, Some, None, refl, ap, ◌∙◌, sym, subst, arith, inl, inr, ⊎_elim}
use Rattle.std.proofs.lemmas.Bool.{and_parts, and_from}
use Rattle.icu_char16trie.specs.UnitMaps.{at_node, MapsKey}
use Rattle.icu_char16trie.specs.UnitGrammar.{IsListing}
use Rattle.icu_char16trie.specs.UnitPairs.{Has}
use Rattle.icu_char16trie.specs.UnitReadingOrder.{Job, extended, noted, IsTaken, Reads, HasTested, passes_all}
use Rattle.icu_char16trie.specs.declared.reader.part.Part.{Part}
use Rattle.icu_char16trie.proofs.Reading.QueueLemmas.{IsOnWay, on_way_first, on_way_more, on_way_end}
use Rattle.icu_char16trie.proofs.Grammar.ListingLemmas.{Pair}
use Rattle.icu_char16trie.proofs.Reading.OutcomeLemmas.{root, listing_of}
use Rattle.icu_char16trie.proofs.Reading.CompleteReadsLemmas.{contains_has, has_contains}

and-assoc : (a b c : Bool) → (a && (b && c)) ≡ ((a && b) && c)
and-assoc true b c = refl
and-assoc false b c = refl

passes-append : (test : List ℕ → ℤ → Bool) (xs ys : List Pair) → passes_all test (xs ++ ys) ≡ (passes_all test xs && passes_all test ys)
passes-append test [] ys = refl
passes-append test (x ∷ xs) ys = ap (λ b. test x.0 x.1 && b) (passes-append test xs ys) ∙ and-assoc (test x.0 x.1) (passes_all test xs) (passes_all test ys)

passes-has : (test : List ℕ → ℤ → Bool) (pairs : List Pair) (key : List ℕ) (number : ℤ) → passes_all test pairs ≡ true → Has pairs key number → test key number ≡ true
passes-has test [] key number all h = absurd h
passes-has test (x ∷ xs) key number all h =
    let both = and_parts (test x.0 x.1) (passes_all test xs) all in
    ⊎_elim
    (λ (same : (x.0 ≡ key) × (x.1 ≡ number)). subst (λ number. test key number ≡ true) same.1 (subst (λ key. test key x.1 ≡ true) same.0 both.0))
    (λ (rest : Has xs key number). passes-has test xs key number both.1 rest) h

has-passes : (test : List ℕ → ℤ → Bool) (pairs : List Pair) → ((key : List ℕ) (number : ℤ) → Has pairs key number → test key number ≡ true) → passes_all test pairs ≡ true
has-passes test [] f = refl
has-passes test (x ∷ xs) f = and_from (test x.0 x.1) (passes_all test xs) (f x.0 x.1 (inl (refl, refl))) (has-passes test xs (λ key number h. f key number (inr h)))

-- what was read so far was tested
abbrev pub IsTesting : List ℕ → ℕ → List Job → List Job → (List ℕ → ℤ → Bool) → Bool → Type 0
IsTesting units limit first left test all = (read : List Pair) × IsOnWay units limit first [] left read × (all ≡ passes_all test read)

noted-few : (key : List ℕ) (value : Option ℕ) → length (noted key value) ≤ 1
noted-few key None = omega arith
noted-few key (Some value) = omega arith

module _ (units : List ℕ) (limit : ℕ) (first : List Job) (test : List ℕ → ℤ → Bool) where
  pub testing_first : IsTesting units limit first first test true
  testing_first = ([], on_way_first units limit first [], refl)

  pub testing_end : (left : List Job) (all : Bool) → left ≡ [] → IsTesting units limit first left test all → HasTested units limit first test all
  testing_end left all none h =
      let read = on_way_end units limit first [] left h.0 none h.1 in
      (read.0, read.1, h.2 ∙ ap (λ pairs. passes_all test pairs) read.2)

module _ (units : List ℕ) (limit : ℕ) (key : List ℕ) (part : Part) (before after : List Job) (now : List Pair) (taken : IsTaken units limit key part before after [] now) where
  pub taken_few : length now ≤ 1
  taken_few =
      let same = ap length taken.pairs in
      let few = noted-few (extended key taken.step.unit) taken.step.value in
      omega (arith, same, few)

  taken-on : (read : List Pair) → IsTaken units limit key part before after read (read ++ now)
  taken-on read = record { step = taken.step; stands = taken.stands; room = taken.room; jobs = taken.jobs; pairs = ap (λ pairs. read ++ pairs) taken.pairs }

  pub testing_more : (first left : List Job) (test : List ℕ → ℤ → Bool) (all next : Bool) → left ≡ (key, part) ∷ before → IsTesting units limit first left test all
      → next ≡ (all && passes_all test now) → IsTesting units limit first after test next
  testing_more first left test all next popped h is = (
    h.0 ++ now,
    on_way_more units limit first [] key part left before after h.0 (h.0 ++ now) popped h.1 (taken-on h.0),
    is ∙ ap (λ b. b && passes_all test now) h.2 ∙ sym (passes-append test h.0 now),
  )

pub tested_says : (units : List ℕ) (limit : ℕ) (pairs : List Pair) (test : List ℕ → ℤ → Bool) (all : Bool) → IsListing units limit pairs → all ≡ passes_all test pairs
    → IsTrue all ↔ ((key : List ℕ) (number : ℤ) → MapsKey units (at_node 0) key number → IsTrue (test key number))
tested_says units limit pairs test all listing is = (
  (λ yes-all key number h. passes-has test pairs key number (sym is ∙ yes-all) (contains_has pairs (key, number) ((listing.entries key number).1 h))),
  (λ f. is ∙ has-passes test pairs (λ key number h. f key number ((listing.entries key number).0 (has_contains pairs key number h)))),
)

pub tested_root : (units : List ℕ) (limit lead : ℕ) (left : List Job) (test : List ℕ → ℤ → Bool) (all : Bool) → slice_get units 0 ≡ Some lead → lead < 0x40 → left ≡ root
    → HasTested units limit left test all → (pairs : List Pair) × IsListing units limit pairs × (all ≡ passes_all test pairs)
tested_root units limit lead left test all is low first h = (h.0, listing_of units limit lead h.0 is low (subst (λ left. Reads units limit left h.0) first h.1), h.2)
