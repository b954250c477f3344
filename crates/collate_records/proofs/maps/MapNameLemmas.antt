-- The characters that maps of lines name: each class and each mapping has its own, and few are named.
use Rattle.std.proofs.Common.{◌≡◌, ℕ, ◌≤◌, ⊎_elim, Bool, true, false, cond, ◌||◌, eqb, List, [], ◌∷◌, ◌++◌, length, map, refl, sym, ap, ◌∙◌, arith, subst, All}
use Rattle.std.specs.Prelude.{flat_map}
use Rattle.std.specs.Cmp.{nat_eq_equiv}
use Rattle.std.specs.List.{list_any, AllByRecursion, IsDistinct}
use Rattle.std.specs.Set.{distinct_count, is_member, unique_keys}
use Rattle.std.proofs.lemmas.Bool.{or_right, false≢true, or_cases, or_parts}
use Rattle.std.proofs.lemmas.List.{take_all}
use Rattle.std.proofs.lemmas.List.Folds.{list_any-append}
use Rattle.std.proofs.lemmas.Map.Made.{length-le_from_is_member}
use Rattle.icu_normalizer_core.specs.CanonicalMaps.{mapping_given, named as named_by}
use Rattle.collate_lines.specs.declared.rule.Rule.TheVariants.{V14}
use Rattle.collate_lines.specs.Record.{Record, nothing, class, mapping, compatibility, weights, range, digit, setting}
use Rattle.collate_records.specs.Maps.{classes_in, compatibilities_in, mappings_in, maps_of}
use Rattle.collate_rules.specs.Rules.{named, names_in, blocks_in, different}
use Rattle.collate_rules.specs.Offenders.{NoneOffends}
use Rattle.collate_lines.specs.Keys.{class_key, mapping_key}
use Rattle.collate_records.proofs.lookups.LookedUpKeyLemmas.{class_kind, mapping_kind, distinct_to, key_named, different-unique, is_member-unique}
use Rattle.collate_records.proofs.maps.MapLineLemmas.{MapsToFew, class_keys, mapping_keys}
use Rattle.collate_records.proofs.maps.RoomMapLemmas.{mapped_within}

-- ---- One class and one mapping for a character

pub maps_one_class : (records : List Record) → NoneOffends V14 records → IsDistinct eqb (map (λ g. g.character) (flat_map classes_in records))
maps_one_class records once =
    let distinct = distinct_to class_key class_kind records once (length records) (omega arith) in
    subst (IsDistinct eqb) (ap (flat_map class_key) (take_all (length records) records (omega arith)) ∙ sym (class_keys records)) distinct

pub maps_one_mapping : (records : List Record) → All MapsToFew records → NoneOffends V14 records → IsDistinct eqb (map (λ g. g.character) (flat_map mappings_in records))
maps_one_mapping records few once =
    let distinct = distinct_to mapping_key mapping_kind records once (length records) (omega arith) in
    subst (IsDistinct eqb) (ap (flat_map mapping_key) (take_all (length records) records (omega arith)) ∙ sym (mapping_keys records few)) distinct

-- ---- Few names

none_among : (x : ℕ) (ys : List ℕ) → list_any (λ y. eqb x y) ys ≡ false → AllByRecursion (λ y. eqb x y ≡ false) ys
none_among x [] h = tt
none_among x (y ∷ ys) h = let w = or_parts (eqb x y) _ h in (w.0, none_among x ys w.1)

pub unique_distinct : (xs : List ℕ) → IsDistinct eqb (unique_keys eqb xs)
unfolding IsDistinct
unique_distinct [] = tt
unique_distinct (x ∷ xs) = by (is_member eqb xs x) refl (unique_distinct xs)
  where
    by : (b : Bool) → is_member eqb xs x ≡ b → IsDistinct eqb (unique_keys eqb xs) → IsDistinct eqb (cond b (unique_keys eqb xs) (x ∷ unique_keys eqb xs))
    by true e d = d
    by false e d = (none_among x (unique_keys eqb xs) (is_member-unique x xs ∙ e), d)

-- what later lines name is named
behind : (q : ℕ) (s : Record) (rs : List Record) → list_any (λ d. eqb q d) (flat_map named rs) ≡ true → list_any (λ d. eqb q d) (named s ++ flat_map named rs) ≡ true
behind q s rs h = list_any-append (λ d. eqb q d) (named s) (flat_map named rs) ∙ or_right (list_any (λ d. eqb q d) (named s)) _ h

either_here : (a r s : Bool) → (r ≡ true → s ≡ true) → (a || r) ≡ true → (a || s) ≡ true
either_here true r s later h = refl
either_here false r s later h = later h

abbrev mapping_names : List Record → List ℕ
mapping_names records = flat_map (λ g. g.character ∷ mapping_given g) (flat_map mappings_in records)

mapping_named : (q : ℕ) (records : List Record) → list_any (λ d. eqb q d) (mapping_names records) ≡ true → list_any (λ d. eqb q d) (flat_map named records) ≡ true
mapping_named q [] h = h
mapping_named q (nothing ∷ rs) h = mapping_named q rs h
mapping_named q (class c k ∷ rs) h = behind q (class c k) rs (mapping_named q rs h)
mapping_named q (mapping c [] x ∷ rs) h = behind q (mapping c [] x) rs (mapping_named q rs h)
mapping_named q (mapping c (d ∷ []) x ∷ rs) h = either_here (eqb q c) _ _ (either_here (eqb q d) _ _ (mapping_named q rs)) h
mapping_named q (mapping c (d ∷ e ∷ []) x ∷ rs) h = either_here (eqb q c) _ _ (either_here (eqb q d) _ _ (either_here (eqb q e) _ _ (mapping_named q rs))) h
mapping_named q (mapping c (d ∷ e ∷ f ∷ ds) x ∷ rs) h = behind q (mapping c (d ∷ e ∷ f ∷ ds) x) rs (mapping_named q rs h)
mapping_named q (compatibility c ds ∷ rs) h = behind q (compatibility c ds) rs (mapping_named q rs h)
mapping_named q (weights l p t es ∷ rs) h = behind q (weights l p t es) rs (mapping_named q rs h)
mapping_named q (range r ∷ rs) h = mapping_named q rs h
mapping_named q (digit c v ∷ rs) h = behind q (digit c v) rs (mapping_named q rs h)
mapping_named q (setting s ∷ rs) h = mapping_named q rs h

-- what maps name, lines name
all_named : (q : ℕ) (records : List Record) → list_any (λ d. eqb q d) (named_by (maps_of records)) ≡ true → list_any (λ d. eqb q d) (flat_map named records) ≡ true
all_named q records h =
    by (list_any (λ d. eqb q d) (map (λ g. g.character) (flat_map classes_in records))) (list_any (λ d. eqb q d) (mapping_names records)) refl refl
    (sym (list_any-append (λ d. eqb q d) (map (λ g. g.character) (flat_map classes_in records)) (mapping_names records)) ∙ h)
  where
    by : (a b : Bool) → list_any (λ d. eqb q d) (map (λ g. g.character) (flat_map classes_in records)) ≡ a → list_any (λ d. eqb q d) (mapping_names records) ≡ b
        → (a || b) ≡ true → list_any (λ d. eqb q d) (flat_map named records) ≡ true
    by true b e f t = key_named class_key class_kind q records (ap (list_any (λ d. eqb q d)) (sym (class_keys records)) ∙ e)
    by false true e f t = mapping_named q records f
    by false false e f t = absurd (false≢true t)

-- numbers that all stand in another list are few, where its are
few_among : (names others : List ℕ) (limit : ℕ) → different others ≤ limit
    → ((q : ℕ) → list_any (λ d. eqb q d) names ≡ true → list_any (λ d. eqb q d) others ≡ true) → distinct_count eqb names ≤ limit
few_among names others limit few within =
    let below = length-le_from_is_member nat_eq_equiv (unique_keys eqb names) (unique_keys eqb others) (unique_distinct names)
    (λ q is. is_member-unique q others ∙ within q (sym (is_member-unique q names) ∙ is)) in
    omega (arith, below, different-unique others, few)

-- so are they, and the blocks in which they lie, where lines name them
module _ (records : List Record) (names : List ℕ) (within : (q : ℕ) → list_any (λ d. eqb q d) names ≡ true → list_any (λ d. eqb q d) (flat_map named records) ≡ true) where
  few_named : (limit : ℕ) → names_in records ≤ limit → distinct_count eqb names ≤ limit
  few_named limit few = few_among names (flat_map named records) limit (omega (arith, few)) within

  few_blocks : (block_of : ℕ → ℕ) (limit : ℕ) → blocks_in block_of records ≤ limit → distinct_count eqb (map block_of names) ≤ limit
  few_blocks block_of limit few =
      few_among (map block_of names) (map block_of (flat_map named records)) limit (omega (arith, few))
      (mapped_within block_of names (flat_map named records) within)

pub maps_few : (records : List Record) (limit : ℕ) → names_in records ≤ limit → distinct_count eqb (named_by (maps_of records)) ≤ limit
maps_few records = few_named records (named_by (maps_of records)) (λ q is. all_named q records is)

pub maps_few_blocks : (records : List Record) (block_of : ℕ → ℕ) (limit : ℕ) → blocks_in block_of records ≤ limit → distinct_count eqb (map block_of (named_by (maps_of records))) ≤ limit
maps_few_blocks records = few_blocks records (named_by (maps_of records)) (λ q is. all_named q records is)

-- ---- With compatibility mappings

-- the characters that compatibility mappings name
abbrev pub pair_names : List (ℕ × List ℕ) → List ℕ
pair_names pairs = flat_map (λ p. p.0 ∷ p.1) pairs

either_list : (q : ℕ) (xs ys zs : List ℕ) → (list_any (λ d. eqb q d) ys ≡ true → list_any (λ d. eqb q d) zs ≡ true)
    → list_any (λ d. eqb q d) (xs ++ ys) ≡ true → list_any (λ d. eqb q d) (xs ++ zs) ≡ true
either_list q [] ys zs later h = later h
either_list q (x ∷ xs) ys zs later h = either_here (eqb q x) _ _ (either_list q xs ys zs later) h

compatibility_named : (q : ℕ) (records : List Record) → list_any (λ d. eqb q d) (pair_names (flat_map compatibilities_in records)) ≡ true
    → list_any (λ d. eqb q d) (flat_map named records) ≡ true
compatibility_named q [] h = h
compatibility_named q (nothing ∷ rs) h = compatibility_named q rs h
compatibility_named q (class c k ∷ rs) h = behind q (class c k) rs (compatibility_named q rs h)
compatibility_named q (mapping c ds x ∷ rs) h = behind q (mapping c ds x) rs (compatibility_named q rs h)
compatibility_named q (compatibility c ds ∷ rs) h = either_list q (c ∷ ds) _ (flat_map named rs) (compatibility_named q rs) h
compatibility_named q (weights l p t es ∷ rs) h = behind q (weights l p t es) rs (compatibility_named q rs h)
compatibility_named q (range r ∷ rs) h = compatibility_named q rs h
compatibility_named q (digit c v ∷ rs) h = behind q (digit c v) rs (compatibility_named q rs h)
compatibility_named q (setting s ∷ rs) h = compatibility_named q rs h

-- the characters that maps of both kinds name
abbrev pub both_named : List Record → List ℕ
both_named records = named_by (maps_of records) ++ pair_names (flat_map compatibilities_in records)

both_within : (records : List Record) (q : ℕ) → list_any (λ d. eqb q d) (both_named records) ≡ true → list_any (λ d. eqb q d) (flat_map named records) ≡ true
both_within records q is =
    let first = named_by (maps_of records) in
    let others = pair_names (flat_map compatibilities_in records) in
    ⊎_elim (λ here. all_named q records here) (λ later. compatibility_named q records later)
    (or_cases _ _ (sym (list_any-append (λ d. eqb q d) first others) ∙ is))

pub all_maps_few : (records : List Record) (limit : ℕ) → names_in records ≤ limit → distinct_count eqb (both_named records) ≤ limit
all_maps_few records = few_named records (both_named records) (both_within records)

pub all_maps_few_blocks : (records : List Record) (block_of : ℕ → ℕ) (limit : ℕ) → blocks_in block_of records ≤ limit → distinct_count eqb (map block_of (both_named records)) ≤ limit
all_maps_few_blocks records = few_blocks records (both_named records) (both_within records)
