-- Contexts whose keys are just some texts.
use Rattle.std.proofs.Common.{◌≡◌, ◌↔◌, ℕ, ℤ, ◌<◌, ◌≤◌, Bool, true, false, cond, not, ◌&&◌, List, [], ◌∷◌, map, Option, Some, None, refl, sym, ap, subst, ◌∙◌, arith, ⊎_elim}
use Rattle.std.specs.Prelude.{slice_get}
use Rattle.std.specs.Bool.{IsTrue}
use Rattle.std.specs.Option.{option_map}
use Rattle.std.specs.List.{Contains, list_all, list_any}
use Rattle.std.proofs.lemmas.Bool.{cases_Bool, false≢true, not_from_false, not-true, or_cases, or_parts}
use Rattle.std.proofs.lemmas.Option.{none-some, same_Some}
use Rattle.icu_char16trie.specs.UnitGrammar.{IsUnitTrie}
use Rattle.icu_char16trie.specs.UnitMaps.{IsNode, MapsKey, Spot, at_node, at_state}
use Rattle.icu_char16trie.specs.declared.node.State.{State}
use Rattle.icu_normalizer_core.specs.BuiltIn.{is_within}
use Rattle.icu_collator_core.specs.ContextRules.{KeysPass, SomeKeyPasses, characters_of_units, is_lower_half, is_upper_half, joined_halves}
use Rattle.icu_collator_core.proofs.apart.GrowthLemmas.{first_in, first_or_later, later_in, none_in}
use Rattle.collate_rules.proofs.given.GivenListLemmas.{list_all_from, list_all_tells}
use Rattle.collate_words.specs.Contexts.{AreKeys}

-- ---- Items of mapped lists

pub mapped_from : {X Y : Type 0} (f : X → Y) (xs : List X) (y : Y) → Contains (map f xs) y
    → (x : X) × Contains xs x × (f x ≡ y)
mapped_from f [] y within = absurd (none_in y within)
mapped_from f (x ∷ xs) y within =
    ⊎_elim (λ (same : f x ≡ y). (x, first_in x xs, same))
    (λ (later : Contains (map f xs) y). let found = mapped_from f xs y later in (found.0, later_in x found.0 xs found.1, found.2))
    (first_or_later (f x) y (map f xs) within)

-- ---- No key is empty

-- the lead of a node tells whether it has a value
abbrev HasLead : Option ℕ → ℕ → Type 0
HasLead None lead = lead < 0x40
HasLead (Some value) lead = 0x40 ≤ lead

module _ (units : List ℕ) where
  node_lead : (index : ℕ) (value : Option ℕ) (next : Option State) → IsNode units index value next
      → (lead : ℕ) × (slice_get units index ≡ Some lead) × HasLead value lead
  node_lead _ _ _ (IsNode.final index lead number read high told) = (lead, read, omega (arith, high))
  node_lead _ _ _ (IsNode.valued index lead number next read low high told opens) = (lead, read, high)
  node_lead _ _ _ (IsNode.bare index lead next read low opens) = (lead, read, low)

  -- what a key without units needs
  abbrev IsEmptyAt : Spot → List ℕ → Type 0
  IsEmptyAt (at_node index) [] = (value : ℕ) × (next : Option State) × IsNode units index (Some value) next
  IsEmptyAt (at_node index) (u ∷ us) = Unit {0}
  IsEmptyAt (at_state state) [] = ⊥
  IsEmptyAt (at_state state) (u ∷ us) = Unit {0}

  behind : (index : ℕ) (state : State) (key : List ℕ) → IsEmptyAt (at_state state) key → IsEmptyAt (at_node index) key
  behind index state [] none = absurd none
  behind index state (u ∷ us) some = tt

  empty_key : (spot : Spot) (key : List ℕ) (number : ℤ) → MapsKey units spot key number → IsEmptyAt spot key
  empty_key _ _ _ (MapsKey.ends index value next node) = (value, next, node)
  empty_key _ _ _ (MapsKey.goes_on index value next key number node rest) =
      behind index next key (empty_key (at_state next) key number rest)
  empty_key _ _ _ (MapsKey.run_on run unit key number read more rest) = tt
  empty_key _ _ _ (MapsKey.run_out run unit key number read few rest) = tt
  empty_key _ _ _ (MapsKey.branch_value branch unit value leads) = tt
  empty_key _ _ _ (MapsKey.branch_node branch unit index key number leads rest) = tt

  pub no_empty_key : (number : ℤ) → IsUnitTrie units → MapsKey units (at_node 0) [] number → ⊥
  no_empty_key number (IsUnitTrie.no_units none) maps =
      let node = empty_key (at_node 0) [] number maps in
      let lead = node_lead 0 (Some node.0) node.1 node.2 in
      none-some lead.0 (sym (ap (λ (us : List ℕ). slice_get us 0) none) ∙ lead.1)
  no_empty_key number (IsUnitTrie.rooted next root whole) maps =
      let node = empty_key (at_node 0) [] number maps in
      let lead = node_lead 0 (Some node.0) node.1 node.2 in
      let bare = node_lead 0 None (Some next) root in
      let same : bare.0 ≡ lead.0 = same_Some bare.0 lead.0 (sym bare.1 ∙ lead.1) in
      let low = bare.2 in
      let high = lead.2 in
      omega (arith, same, low, high)

no_cons : (c : ℕ) (o : Option (List ℕ)) → option_map (λ cs. c ∷ cs) o ≡ Some [] → ⊥
no_cons c None h = none-some [] h
no_cons c (Some cs) h = cc

-- the key of no characters has no units
empty_units : (key : List ℕ) → characters_of_units key ≡ Some [] → key ≡ []
unfolding characters_of_units
empty_units [] h = refl
empty_units (unit ∷ []) h = absurd (at (is_within 0xd800 0xdfff unit) h)
  where
    at : (b : Bool) → cond b None (Some (unit ∷ [])) ≡ Some [] → ⊥
    at true e = cc
    at false e = cc
empty_units (unit ∷ next ∷ units) h =
    absurd (at (is_within 0xd800 0xdfff unit) (is_upper_half unit && is_lower_half next) h)
  where
    at : (b d : Bool)
        → cond b (cond d (option_map (λ cs. joined_halves unit next ∷ cs) (characters_of_units units)) None)
        (option_map (λ cs. unit ∷ cs) (characters_of_units (next ∷ units))) ≡ Some [] → ⊥
    at true true e = no_cons (joined_halves unit next) (characters_of_units units) e
    at true false e = cc
    at false d e = no_cons unit (characters_of_units (next ∷ units)) e

module _ (units : List ℕ) (texts : List (List ℕ)) (keys : AreKeys units texts) where
  pub texts_filled : Contains texts [] → ⊥
  texts_filled within =
      let found = keys.spelled [] within in
      let empty = empty_units found.0 found.3 in
      no_empty_key units found.1 keys.grammar
      (subst (λ (key : List ℕ). MapsKey units (at_node 0) key found.1) empty found.2)

  -- what all texts pass, all keys do
  pub keys_pass : (p : List ℕ → Bool) → ((text : List ℕ) → Contains texts text → p text ≡ true) → KeysPass p units
  keys_pass p all = (
    keys.grammar,
    λ key number maps. let found = keys.read key number maps in (found.0, found.1, all found.0 found.2),
  )

  -- and back
  pub texts_pass : (p : List ℕ → Bool) → KeysPass p units → (text : List ℕ) → Contains texts text → p text ≡ true
  texts_pass p pass text within =
      let found = keys.spelled text within in
      let told = pass.1 found.0 found.1 found.2 in
      ap p (same_Some text told.0 (sym found.3 ∙ told.1)) ∙ told.2

  module _ (p q : List ℕ → Bool) (alike : (text : List ℕ) → Contains texts text → p text ≡ q text) where
    pub all_told : (flag : Bool) → flag ≡ list_all q texts → IsTrue flag ↔ KeysPass p units
    all_told flag is = (
      λ set. keys_pass p (λ text within. alike text within ∙ list_all_tells q texts (sym is ∙ set) text within),
      λ pass. is ∙ list_all_from q texts (λ text within. sym (alike text within) ∙ texts_pass p pass text within),
    )

    all_not : (xs : List (List ℕ)) → list_any q xs ≡ false → (text : List ℕ) → Contains xs text → q text ≡ false
    all_not [] none text within = absurd (none_in text within)
    all_not (x ∷ xs) none text within =
        let both = or_parts (q x) (list_any q xs) none in
        ⊎_elim (λ (same : x ≡ text). ap q (sym same) ∙ both.0) (λ later. all_not xs both.1 text later)
        (first_or_later x text xs within)

    some_in : (xs : List (List ℕ)) → list_any q xs ≡ true → (text : List ℕ) × Contains xs text × (q text ≡ true)
    some_in [] some = absurd (false≢true some)
    some_in (x ∷ xs) some =
        ⊎_elim (λ (here : q x ≡ true). (x, first_in x xs, here))
        (λ (there : list_any q xs ≡ true). let found = some_in xs there in (found.0, later_in x found.0 xs found.1, found.2))
        (or_cases (q x) (list_any q xs) some)

    pub some_told : (flag : Bool) → flag ≡ list_any q texts → IsTrue flag ↔ SomeKeyPasses p units
    some_told flag is = (
      λ set pass.
          let found = some_in texts (sym is ∙ set) in
          let fails = texts_pass (λ cs. not (p cs)) pass found.0 found.1 in
          false≢true (sym (not-true (p found.0) fails) ∙ alike found.0 found.1 ∙ found.2),
      λ some.
          ⊎_elim (λ (set : flag ≡ true). set)
          (λ (unset : flag ≡ false).
          absurd
          (some
          (keys_pass (λ cs. not (p cs))
          (λ text within. not_from_false (p text) (alike text within ∙ all_not texts (sym is ∙ unset) text within)))))
          (cases_Bool flag),
    )
