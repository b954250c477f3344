-- what an index keeps: names with their keys, which stand in order as their keys do
use Rattle.std.proofs.Common.{◌≡◌, ℕ, ◌≤◌, List, [], ◌∷◌, ◌++◌, length, get_or, refl, sym, ap, ◌∙◌, subst, Bool, true, false, cond, not}
use Rattle.std.specs.Prelude.{Result, Ok, Err, OnOk, OnErr, bytes_eq, filter}
use Rattle.std.specs.List.{All, Contains}
use Rattle.std.specs.Cmp.Lexicographic.{slice_cmp}
use Rattle.std.specs.Ordering.{nat_cmp}
use Rattle.std.proofs.lemmas.List.{length-map}
use Rattle.std.proofs.lemmas.List.Elements.{All-contains, All-same, All-push}
use Rattle.std.proofs.lemmas.List.Sorted.{All-permutation}
use Rattle.collate_rules.specs.Accepted.{AreAccepted}
use Rattle.collate_lists.specs.Names.{in_order}
use Rattle.collate_lists.specs.Search.{IsRankOf}
use Rattle.collate_lists.proofs.NameChangeLemmas.{in_order_alike, in_order_map}
use Rattle.collate_lists.proofs.NamesLemmas.{in_order_is_permutation, length-in_order}
use Rattle.collate_lists.proofs.NameRankLemmas.{rank_alike, rank_map}
use Rattle.collate_name_list.specs.StoredNames.{StoredName, key_order, names_of, sorted, without}
use Rattle.collate_name_list.specs.declared.errors.AddError.{AddError}
use Rattle.collate_index.specs.Catalogue.{Catalogue, meaning_in, order_of, sorted_names}
use Rattle.collate_index.specs.Index.{IsKept, catalogue_of}
use Rattle.collate_index.specs.declared.index.Index.TheInside.{Inside}
use Rattle.collate_index.specs.Keys.{IsKeyOf, IsKeyed, key_of_name}
use Rattle.collate_index.specs.Meaning.{Meaning, order_by}
use Rattle.collate_index.proofs.order.NameOrderLemmas.{keys_order_in_index}

-- as many names stand in order as arrived
pub length_sorted : (names : List StoredName) → length (sorted names) ≡ length names
length_sorted names = length-in_order key_order names

module _ (m : Meaning) (accepted : AreAccepted m.records) where
  -- keys order as the names
  keyed_order : (x y : StoredName) → IsKeyed m x → IsKeyed m y → key_order x y ≡ order_by m x.name y.name
  keyed_order x y of_x of_y =
      ap (λ (k : List ℕ). slice_cmp nat_cmp k y.key) of_x
      ∙ ap (λ (k : List ℕ). slice_cmp nat_cmp (key_of_name m x.name) k) of_y
      ∙ keys_order_in_index m x.name y.name accepted

  module _ (names : List StoredName) (keyed : All (IsKeyed m) names) where
    -- so stored names stand in the order of names
    pub names_sorted : names_of (sorted names) ≡ in_order (order_by m) (names_of names)
    names_sorted =
        ap names_of (in_order_alike key_order (λ x y. order_by m x.name y.name) names
        (λ x y in_x in_y. keyed_order x y (subst (IsKeyed m) in_x.2 (keyed in_x.0 x in_x.1)) (subst (IsKeyed m) in_y.2 (keyed in_y.0 y in_y.1))))
        ∙ in_order_map (λ (stored : StoredName). stored.name) (λ x y. order_by m x.name y.name) (order_by m) (λ x y. refl) names

    keyed_sorted : All (IsKeyed m) (sorted names)
    keyed_sorted = All-permutation (IsKeyed m) names (sorted names) (in_order_is_permutation key_order names) keyed

    -- as many of them
    pub as_many : length (in_order (order_by m) (names_of names)) ≡ length (sorted names)
    as_many = sym (ap length names_sorted) ∙ length-map (sorted names) (λ (stored : StoredName). stored.name)

    -- a place by keys is one by names
    pub rank_by_names : (name key : List ℕ) → IsKeyOf m name key → (past : Bool) (at : ℕ) → at ≤ length (sorted names)
        → IsRankOf (λ (stored : StoredName). slice_cmp nat_cmp stored.key key) past (sorted names) at
        → IsRankOf (λ other. order_by m other name) past (in_order (order_by m) (names_of names)) at
    rank_by_names name key of past at within place =
        let sought : StoredName = record { key = key; name = name } in
        subst (λ (xs : List (List ℕ)). IsRankOf (λ other. order_by m other name) past xs at) names_sorted
        (rank_map (λ (stored : StoredName). stored.name) (λ other. order_by m other name) past (sorted names) at within
        (rank_alike (λ (stored : StoredName). slice_cmp nat_cmp stored.key key) (λ (stored : StoredName). order_by m stored.name name) past (sorted names) at within
        (λ k d h. keyed_order (get_or (sorted names) k d) sought (keyed_sorted k d h) of) place))

-- an index as its callers see it
module _ (s : Inside) (kept : IsKept s) (now : Catalogue) (is : catalogue_of s ≡ now) where
  pub listed : names_of (sorted s.names) ≡ sorted_names now
  listed = names_sorted (meaning_in (catalogue_of s)) kept.accepted s.names kept.keyed ∙ ap (λ (c : Catalogue). sorted_names c) is

  pub length_listed : length (sorted s.names) ≡ length (sorted_names now)
  length_listed = sym (length-map (sorted s.names) (λ (stored : StoredName). stored.name)) ∙ ap length listed

  pub placed : (name key : List ℕ) → IsKeyOf (meaning_in now) name key → (past : Bool) (at : ℕ) → at ≤ length (sorted s.names)
      → IsRankOf (λ (stored : StoredName). slice_cmp nat_cmp stored.key key) past (sorted s.names) at
      → IsRankOf (λ other. order_of now other name) past (sorted_names now) at
  placed name key of past at within place =
      subst (λ (c : Catalogue). IsRankOf (λ other. order_of c other name) past (sorted_names c) at) is
      (rank_by_names (meaning_in (catalogue_of s)) kept.accepted s.names kept.keyed name key
      (subst (λ (c : Catalogue). IsKeyOf (meaning_in c) name key) (sym is) of) past at within place)

  -- the key that stands with a name is the name's
  pub key_stored : (name key : List ℕ) → Contains s.names (record { key = key; name = name }) → IsKeyOf (meaning_in now) name key
  key_stored name key there =
      subst (λ (c : Catalogue). IsKeyOf (meaning_in c) name key) is
      (All-contains (IsKeyed (meaning_in (catalogue_of s))) s.names (record { key = key; name = name }) kept.keyed there)

-- other names, each with its key
pub kept_names : (s : Inside) → IsKept s → (names : List StoredName) → All (IsKeyed (meaning_in (catalogue_of s))) names → IsKept (record s { names = names })
kept_names s kept names keyed = record { accepted = kept.accepted; collator = kept.collator; keyed = keyed }

-- a name that is added with its key, or isn't
pub keyed_added : (m : Meaning) (result : Result (Unit {0}) AddError) (old new : List StoredName) (stored : StoredName) → OnOk result (new ≡ old ++ stored ∷ [])
    → OnErr result (new ≡ old) → IsKeyed m stored → All (IsKeyed m) old → All (IsKeyed m) new
keyed_added m (Ok _) old new stored added unchanged of keyed = All-same (IsKeyed m) new (old ++ stored ∷ []) added (All-push (IsKeyed m) old stored keyed of)
keyed_added m (Err _) old new stored added unchanged of keyed = All-same (IsKeyed m) new old unchanged keyed

-- the names that are left without one
pub names_without : (name : List ℕ) (names : List StoredName) → names_of (without name names) ≡ filter (λ other. not (bytes_eq other name)) (names_of names)
names_without name [] = refl
names_without name (stored ∷ names) =
    map_either (not (bytes_eq stored.name name)) stored (without name names)
    ∙ ap (λ (rest : List (List ℕ)). cond (not (bytes_eq stored.name name)) (stored.name ∷ rest) rest) (names_without name names)
  where
    map_either : (b : Bool) (e : StoredName) (es : List StoredName) → names_of (cond b (e ∷ es) es) ≡ cond b (e.name ∷ names_of es) (names_of es)
    map_either true e es = refl
    map_either false e es = refl
