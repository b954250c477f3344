-- Characters that are named, each once.
use Rattle.std.proofs.Common.{◌≡◌, ℕ, suc, ◌+◌, ◌/◌, ◌^◌, ◌<◌, ◌≤◌, ◌⊎◌, inl, inr, ⊎_elim, Bool, true, false, cond, ◌==◌, ◌||◌, List, [], ◌∷◌, ◌++◌, length, slice_index, take, drop, map, flat_map, Some, refl, sym, ap, subst, ◌∙◌, arith}
use Rattle.std.specs.Char.{IsScalar}
use Rattle.std.specs.Prelude.{nat_eq, slice_index_or}
use lib.Utf8.{low_scalar}
use Rattle.std.specs.List.{All, AllByRecursion, IsDistinct}
use Rattle.std.specs.Option.{is_some}
use Rattle.std.specs.Set.{distinct_count, is_member, unique_keys}
use Rattle.std.proofs.lemmas.Bool.{or_left, or_parts, or_right}
use Rattle.std.proofs.lemmas.Bool.Decides.{nat_tests}
use Rattle.std.proofs.lemmas.Cmp.{nat_eq_equiv}
use Rattle.std.proofs.lemmas.List.{length-map, take-append-drop, take_more}
use Rattle.std.proofs.lemmas.List.Elements.{All-cons, All-head, All-nil, All-tail}
use Rattle.std.proofs.lemmas.List.Folds.{list_any-append}
use Rattle.std.proofs.lemmas.Map.Made.{distinct_count-le, length-from_keys}
use Rattle.std.proofs.lemmas.Map.Steps.{list_any_congr}
use Rattle.icu_codepointtrie.proofs.built.UpperBlockLemmas.{count_joined}
use Rattle.icu_normalizer_core.specs.declared.builder.given.GivenClass.{GivenClass}
use Rattle.icu_normalizer_core.specs.declared.builder.given.GivenCompatibility.{GivenCompatibility}
use Rattle.icu_normalizer_core.specs.declared.builder.given.GivenMapping.{GivenMapping}
use Rattle.icu_normalizer_core.specs.BuiltIn.{built_in_step}
use Rattle.icu_normalizer_core.specs.CanonicalMaps.{mapping_given, named}
use Rattle.icu_normalizer_core.specs.CharacterWords.{HasNamed, built_in_named}
use Rattle.icu_normalizer_core.specs.CompatibilityMaps.{all_named}
use Rattle.icu_normalizer_core.specs.GivenMaps.{IsOfScalars}
use Rattle.icu_normalizer_core.specs.InOrder.{AreFirstsInOrder, Rise, first_of}
use Rattle.icu_normalizer_core.specs.MapNumbers.{mapping_number, mapping_numbers}
use Rattle.icu_normalizer_core.specs.Named.{AreDistinctOf, AreInFewBlocks, block_count, narrow_block, wide_block, with_new}
use Rattle.icu_normalizer_core.specs.Settled.{IsAmong}
use Rattle.icu_normalizer_core.specs.SettledMappings.{HasAllNamed}
use Rattle.icu_normalizer_core.proofs.built.BuiltInFacts.{high_scalar}
use Rattle.icu_normalizer_core.proofs.building.AcceptedMapsLimitLemmas.{behind_named, distinct_among, front_named, keys_named, members_kept}
use Rattle.icu_normalizer_core.proofs.building.CharacterWordLemmas.{index_got}
use Rattle.icu_normalizer_core.proofs.building.MapNumberLemmas.{mapping_parts}

-- ---- One character more

or_false : (b : Bool) → (b || false) ≡ b
or_false true = refl
or_false false = refl

flipped : (a b : ℕ) → nat_eq a b ≡ (b == a)
flipped a b = grind (arith, nat_tests)

apart_flipped : (a b : ℕ) → nat_eq a b ≡ false → nat_eq b a ≡ false
apart_flipped a b e = grind (arith, nat_tests)

absent : (x : ℕ) (ys : List ℕ) → is_member nat_eq ys x ≡ false → AllByRecursion (λ y. nat_eq x y ≡ false) ys
absent x [] e = tt
absent x (y ∷ ys) e = let both = or_parts (nat_eq x y) (is_member nat_eq ys x) e in (both.0, absent x ys both.1)

apart_behind : (x c : ℕ) (ys : List ℕ) → AllByRecursion (λ y. nat_eq x y ≡ false) ys → nat_eq x c ≡ false → AllByRecursion (λ y. nat_eq x y ≡ false) (ys ++ c ∷ [])
apart_behind x c [] all e = (e, tt)
apart_behind x c (y ∷ ys) all e = (all.0, apart_behind x c ys all.1 e)

distinct_behind : (xs : List ℕ) (c : ℕ) → IsDistinct nat_eq xs → is_member nat_eq xs c ≡ false → IsDistinct nat_eq (xs ++ c ∷ [])
unfolding IsDistinct
distinct_behind [] c d e = (tt, tt)
distinct_behind (x ∷ xs) c d e =
    let both = or_parts (nat_eq c x) (is_member nat_eq xs c) e in
    (apart_behind x c xs d.0 (apart_flipped c x both.0), distinct_behind xs c d.1 both.1)

-- a character that is there already is nothing new
kept : (all : List ℕ) (c q : ℕ) → is_member nat_eq all c ≡ true → is_member nat_eq (all ++ c ∷ []) q ≡ is_member nat_eq all q
kept all c q m = list_any-append (nat_eq q) all (c ∷ []) ∙ by (nat_eq q c) refl
  where
    by : (b : Bool) → nat_eq q c ≡ b → (is_member nat_eq all q || (b || false)) ≡ is_member nat_eq all q
    by true t = let on : is_member nat_eq all q ≡ true = list_any_congr nat_eq_equiv q c all t ∙ m in ap (λ (b : Bool). b || true) on ∙ sym on
    by false t = or_false (is_member nat_eq all q)

pub distinct_none : AreDistinctOf [] []
unfolding IsDistinct
distinct_none = record { distinct = tt; same = λ q. refl }

pub distinct_more : (all list : List ℕ) (c : ℕ) → AreDistinctOf all list → AreDistinctOf (all ++ c ∷ []) (with_new list c)
distinct_more all list c before = by (is_member nat_eq list c) refl
  where
    by : (b : Bool) → is_member nat_eq list c ≡ b → AreDistinctOf (all ++ c ∷ []) (cond b list (list ++ c ∷ []))
    by true m = record { distinct = before.distinct; same = λ q. before.same q ∙ sym (kept all c q (sym (before.same c) ∙ m)) }
    by false m = record {
      distinct = distinct_behind list c before.distinct m;
      same = λ q.
          list_any-append (nat_eq q) list (c ∷ []) ∙ ap (λ (b : Bool). b || (nat_eq q c || false)) (before.same q) ∙ sym (list_any-append (nat_eq q) all (c ∷ []));
    }

-- the same, at an index
pub named_more : (all : List ℕ) (i x : ℕ) (old new : List ℕ) → AreDistinctOf (take i all) old → i < length all → x ≡ slice_index_or all i x → new ≡ with_new old x
    → AreDistinctOf (take (i + 1) all) new
named_more all i x old new before inside at is =
    let front : take (i + 1) all ≡ take i all ++ x ∷ [] = take_more all i 0 inside ∙ ap (λ (y : ℕ). take i all ++ y ∷ []) (sym (index_got all i x inside at)) in
    subst (λ (xs : List ℕ). AreDistinctOf xs new) (sym front) (subst (AreDistinctOf (take i all ++ x ∷ [])) (sym is) (distinct_more (take i all) old x before))

-- so many different characters are in a list as in the first part of it, or more
pub many_named : (all : List ℕ) (i : ℕ) (list : List ℕ) → AreDistinctOf (take i all) list → length list ≤ distinct_count nat_eq all
many_named all i list of =
    distinct_among list all of.distinct
    (λ q m.
    let front : is_member nat_eq (take i all ++ drop i all) q ≡ true = front_named (take i all) (drop i all) q (sym (of.same q) ∙ m) in
    subst (λ (xs : List ℕ). is_member nat_eq xs q ≡ true) (take-append-drop i all) front)

pub named_count : (all list : List ℕ) → AreDistinctOf all list → length list ≡ distinct_count nat_eq all
named_count all list of = length-from_keys nat_eq_equiv list all of.distinct of.same

-- ---- Counts of different characters

same_is : (a b : ℕ) → a ≡ b → nat_eq a b ≡ true
same_is a b e = grind (arith, nat_tests)

equal_is : (q x : ℕ) → nat_eq q x ≡ true → x ≡ q
equal_is q x e = grind (arith, nat_tests)

map_joined : (f : ℕ → ℕ) (xs ys : List ℕ) → map f (xs ++ ys) ≡ map f xs ++ map f ys
map_joined f [] ys = refl
map_joined f (x ∷ xs) ys = ap (λ (t : List ℕ). f x ∷ t) (map_joined f xs ys)

uniques_distinct : (xs : List ℕ) → IsDistinct nat_eq (unique_keys nat_eq xs)
unfolding IsDistinct
uniques_distinct [] = tt
uniques_distinct (x ∷ xs) = by (is_member nat_eq xs x) refl (uniques_distinct xs)
  where
    by : (b : Bool) → is_member nat_eq xs x ≡ b → IsDistinct nat_eq (unique_keys nat_eq xs) → IsDistinct nat_eq (cond b (unique_keys nat_eq xs) (x ∷ unique_keys nat_eq xs))
    by true m rest = rest
    by false m rest = (absent x (unique_keys nat_eq xs) (members_kept xs x ∙ m), rest)

pub count_among : (xs ys : List ℕ) → ((q : ℕ) → is_member nat_eq xs q ≡ true → is_member nat_eq ys q ≡ true) → distinct_count nat_eq xs ≤ distinct_count nat_eq ys
count_among xs ys among = distinct_among (unique_keys nat_eq xs) ys (uniques_distinct xs) (λ q m. among q (sym (members_kept xs q) ∙ m))

-- mapped characters are among those that are named
pub mapped_count : (classes : List GivenClass) (mappings : List GivenMapping)
    → distinct_count nat_eq (map (λ g. g.character) mappings) ≤ distinct_count nat_eq (named (record { classes = classes; mappings = mappings }))
mapped_count classes mappings =
    count_among (map (λ g. g.character) mappings) (named (record { classes = classes; mappings = mappings }))
    (λ q m. behind_named (map (λ g. g.character) classes) (flat_map (λ g. g.character ∷ mapping_given g) mappings) q (keys_named (λ g. g.character) mapping_given mappings q m))

-- ---- Blocks of characters

image_from : (f : ℕ → ℕ) (xs : List ℕ) (q : ℕ) → is_member nat_eq (map f xs) q ≡ true → (c : ℕ) × (is_member nat_eq xs c ≡ true) × (f c ≡ q)
image_from f [] q e = absurd cc
image_from f (x ∷ xs) q e = by (nat_eq q (f x)) refl (image_from f xs q) e
  where
    by : (b : Bool) → nat_eq q (f x) ≡ b → (is_member nat_eq (map f xs) q ≡ true → (c : ℕ) × (is_member nat_eq xs c ≡ true) × (f c ≡ q)) → (b || is_member nat_eq (map f xs) q) ≡ true
        → (c : ℕ) × ((nat_eq c x || is_member nat_eq xs c) ≡ true) × (f c ≡ q)
    by true t later h = (x, or_left (nat_eq x x) (is_member nat_eq xs x) (same_is x x refl), equal_is q (f x) t)
    by false t later h = let w = later h in (w.0, or_right (nat_eq w.0 x) (is_member nat_eq xs w.0) w.1, w.2)

image_to : (f : ℕ → ℕ) (xs : List ℕ) (c : ℕ) → is_member nat_eq xs c ≡ true → is_member nat_eq (map f xs) (f c) ≡ true
image_to f [] c e = absurd cc
image_to f (x ∷ xs) c e = by (nat_eq c x) refl (image_to f xs c) e
  where
    by : (b : Bool) → nat_eq c x ≡ b → (is_member nat_eq xs c ≡ true → is_member nat_eq (map f xs) (f c) ≡ true) → (b || is_member nat_eq xs c) ≡ true
        → (nat_eq (f c) (f x) || is_member nat_eq (map f xs) (f c)) ≡ true
    by true t later h = or_left (nat_eq (f c) (f x)) (is_member nat_eq (map f xs) (f c)) (same_is (f c) (f x) (ap f (sym (equal_is c x t))))
    by false t later h = or_right (nat_eq (f c) (f x)) (is_member nat_eq (map f xs) (f c)) (later h)

-- what is among others has no more images than they
count_images : (f : ℕ → ℕ) (xs ys : List ℕ) → ((q : ℕ) → is_member nat_eq xs q ≡ true → is_member nat_eq ys q ≡ true)
    → distinct_count nat_eq (map f xs) ≤ distinct_count nat_eq (map f ys)
count_images f xs ys among =
    count_among (map f xs) (map f ys)
    (λ q m. let w = image_from f xs q m in subst (λ (n : ℕ). is_member nat_eq (map f ys) n ≡ true) w.2 (image_to f ys w.0 (among w.0 w.1)))

-- and no more than there are of them
pub count_image : (f : ℕ → ℕ) (xs : List ℕ) → distinct_count nat_eq (map f xs) ≤ distinct_count nat_eq xs
count_image f xs =
    omega (
      arith,
      count_images f xs (unique_keys nat_eq xs) (λ q m. members_kept xs q ∙ m),
      distinct_count-le nat_eq (map f (unique_keys nat_eq xs)),
      length-map (unique_keys nat_eq xs) f,
    )

-- characters, each once, stand in few blocks where all do
pub few_blocks : (all list : List ℕ) → AreDistinctOf all list → AreInFewBlocks all → AreInFewBlocks list
few_blocks all list of few = record {
  wide = omega (arith, few.wide, count_images wide_block list all (λ q m. sym (of.same q) ∙ m));
  narrow = omega (arith, few.narrow, count_images narrow_block list all (λ q m. sym (of.same q) ∙ m));
}

-- each character in front of a list stands in one block more at most
pub blocks_joined : (block_of : ℕ → ℕ) (xs ys : List ℕ) → block_count block_of (xs ++ ys) ≤ length xs + block_count block_of ys
blocks_joined block_of xs ys =
    let split : map block_of (xs ++ ys) ≡ map block_of xs ++ map block_of ys = map_joined block_of xs ys in
    omega (arith, count_joined nat_eq (map block_of xs) (map block_of ys), ap (distinct_count nat_eq) split, length-map xs block_of)

-- ---- What a list has

among_member : (xs : List ℕ) (c : ℕ) → IsAmong xs c → is_member nat_eq xs c ≡ true
among_member [] c h = elim h [ ]
among_member (x ∷ xs) c (inl e) = or_left (nat_eq c x) (is_member nat_eq xs c) (let t : nat_eq c x ≡ true = grind (arith, nat_tests) in t)
among_member (x ∷ xs) c (inr h) = or_right (nat_eq c x) (is_member nat_eq xs c) (among_member xs c h)

member_among : (xs : List ℕ) (c : ℕ) → is_member nat_eq xs c ≡ true → IsAmong xs c
member_among [] c e = absurd cc
member_among (x ∷ xs) c e = by (nat_eq c x) refl (member_among xs c) e
  where
    same : nat_eq c x ≡ true → x ≡ c
    same t = grind (arith, nat_tests)

    by : (b : Bool) → nat_eq c x ≡ b → (is_member nat_eq xs c ≡ true → IsAmong xs c) → (b || is_member nat_eq xs c) ≡ true → (x ≡ c) ⊎ IsAmong xs c
    by true t later h = inl (same t)
    by false t later h = inr (later h)

among_split : (xs ys : List ℕ) (c : ℕ) → IsAmong (xs ++ ys) c → IsAmong xs c ⊎ IsAmong ys c
among_split [] ys c h = inr h
among_split (x ∷ xs) ys c (inl e) = inl (inl e)
among_split (x ∷ xs) ys c (inr h) = ⊎_elim (λ front. inl (inr front)) (λ behind. inr behind) (among_split xs ys c h)

among_front : (xs ys : List ℕ) (c : ℕ) → IsAmong xs c → IsAmong (xs ++ ys) c
among_front [] ys c h = elim h [ ]
among_front (x ∷ xs) ys c (inl e) = inl e
among_front (x ∷ xs) ys c (inr h) = inr (among_front xs ys c h)

among_behind : (xs ys : List ℕ) (c : ℕ) → IsAmong ys c → IsAmong (xs ++ ys) c
among_behind [] ys c h = h
among_behind (x ∷ xs) ys c h = inr (among_behind xs ys c h)

-- what is named is there
is_there : (all list : List ℕ) (c : ℕ) → AreDistinctOf all list → is_member nat_eq all c ≡ true → IsAmong list c
is_there all list c of m = member_among list c (of.same c ∙ m)

pub has_named : (classes : List GivenClass) (mappings : List GivenMapping) (list : List ℕ)
    → AreDistinctOf (named (record { classes = classes; mappings = mappings })) list → HasNamed classes mappings (built_in_named ++ list)
has_named classes mappings list of c h =
    let classed : List ℕ = map (λ g. g.character) classes in
    let mapped : List ℕ = map (λ g. g.character) mappings in
    let more : List ℕ = flat_map (λ g. g.character ∷ mapping_given g) mappings in
    ⊎_elim
    (λ front. ⊎_elim
    (λ fixed. among_front built_in_named list c fixed)
    (λ given. among_behind built_in_named list c (is_there (classed ++ more) list c of (front_named classed more c (among_member classed c given))))
    (among_split built_in_named classed c front))
    (λ behind. among_behind built_in_named list c (is_there (classed ++ more) list c of
    (behind_named classed more c (keys_named (λ g. g.character) mapping_given mappings c (among_member mapped c behind)))))
    (among_split (built_in_named ++ classed) mapped c h)

pub has_all_named : (classes : List GivenClass) (mappings : List GivenMapping) (given : List GivenCompatibility) (list : List ℕ)
    → AreDistinctOf (all_named (record { canonical = record { classes = classes; mappings = mappings }; compatibilities = given })) list
    → HasAllNamed classes mappings given ((0xff9e ∷ 0xff9f ∷ []) ++ (built_in_named ++ list))
has_all_named classes mappings given list of c h =
    let fixed : List ℕ = 0xff9e ∷ 0xff9f ∷ built_in_named in
    let classed : List ℕ = map (λ g. g.character) classes in
    let mapped : List ℕ = map (λ g. g.character) mappings in
    let canonical : List ℕ = classed ++ flat_map (λ g. g.character ∷ mapping_given g) mappings in
    let more : List ℕ = flat_map (λ g. g.character ∷ g.mapping.items) given in
    let there : is_member nat_eq (canonical ++ more) c ≡ true → IsAmong (fixed ++ list) c = λ m. among_behind fixed list c (is_there (canonical ++ more) list c of m) in
    let in_canonical : is_member nat_eq canonical c ≡ true → IsAmong (fixed ++ list) c = λ m. there (front_named canonical more c m) in
    ⊎_elim
    (λ front. ⊎_elim
    (λ first. ⊎_elim
    (λ built. among_front fixed list c built)
    (λ m. in_canonical (front_named classed (flat_map (λ g. g.character ∷ mapping_given g) mappings) c (among_member classed c m)))
    (among_split fixed classed c first))
    (λ m. in_canonical (behind_named classed (flat_map (λ g. g.character ∷ mapping_given g) mappings) c (keys_named (λ g. g.character) mapping_given mappings c (among_member mapped c m))))
    (among_split (fixed ++ classed) mapped c front))
    (λ m. there (behind_named canonical more c (keys_named (λ g. g.character) (λ g. g.mapping.items) given c (among_member (map (λ g. g.character) given) c m))))
    (among_split ((fixed ++ classed) ++ mapped) (map (λ g. g.character) given) c h)

-- ---- How many mappings there are

below_apart : (a b : ℕ) → a < b → nat_eq a b ≡ false
below_apart a b lt = grind (arith, nat_tests)

all_above : (d k : ℕ) (xs : List ℕ) → (0 < length xs → k < slice_index xs 0 / d) → Rise d xs → AllByRecursion (λ y. nat_eq k y ≡ false) (map (λ n. n / d) xs)
all_above d k [] first rise = tt
all_above d k (x ∷ xs) first rise =
    let here : k < x / d = first (omega arith) in
    (below_apart k (x / d) here, all_above d k xs (λ some. let next = rise 0 (omega arith) in omega (arith, here, next)) (λ i h. rise (suc i) (omega arith)))

rising_distinct : (d : ℕ) (xs : List ℕ) → Rise d xs → IsDistinct nat_eq (map (λ n. n / d) xs)
unfolding IsDistinct
rising_distinct d [] rise = tt
rising_distinct d (x ∷ xs) rise =
    (all_above d (x / d) xs (λ some. rise 0 (omega arith)) (λ i h. rise (suc i) (omega arith)), rising_distinct d xs (λ i h. rise (suc i) (omega arith)))

found_member : (d q : ℕ) (xs : List ℕ) → is_member nat_eq (map (λ n. n / d) xs) q ≡ is_some (first_of d xs q)
found_member d q [] = refl
found_member d q (x ∷ xs) = ap (λ (b : Bool). b || is_member nat_eq (map (λ n. n / d) xs) q) (flipped q (x / d)) ∙ by ((x / d) == q) (found_member d q xs)
  where
    by : (b : Bool) → is_member nat_eq (map (λ n. n / d) xs) q ≡ is_some (first_of d xs q) → (b || is_member nat_eq (map (λ n. n / d) xs) q) ≡ is_some (cond b (Some x) (first_of d xs q))
    by true later = refl
    by false later = later

or_weaker : (b c d : Bool) → (c ≡ true → d ≡ true) → (b || c) ≡ true → (b || d) ≡ true
or_weaker true c d f h = refl
or_weaker false c d f h = f h

number_keys : (ms : List GivenMapping) (q : ℕ) → All IsOfScalars ms → is_member nat_eq (map (λ n. n / 2 ^ 42) (flat_map mapping_numbers ms)) q ≡ true
    → is_member nat_eq (map (λ g. g.character) ms) q ≡ true
number_keys [] q all e = e
number_keys (g ∷ gs) q all e = by (is_some (built_in_step g.character)) (number_keys gs q (All-tail IsOfScalars g gs all)) e
  where
    by : (f : Bool) → (is_member nat_eq (map (λ n. n / 2 ^ 42) (flat_map mapping_numbers gs)) q ≡ true → is_member nat_eq (map (λ h. h.character) gs) q ≡ true)
        → is_member nat_eq (map (λ n. n / 2 ^ 42) (cond f [] (mapping_number g ∷ []) ++ flat_map mapping_numbers gs)) q ≡ true
        → (nat_eq q g.character || is_member nat_eq (map (λ h. h.character) gs) q) ≡ true
    by true later h = or_right (nat_eq q g.character) (is_member nat_eq (map (λ h. h.character) gs) q) (later h)
    by false later h =
        or_weaker (nat_eq q g.character) (is_member nat_eq (map (λ n. n / 2 ^ 42) (flat_map mapping_numbers gs)) q) (is_member nat_eq (map (λ h. h.character) gs) q)
        later
        (subst (λ (k : ℕ). (nat_eq q k || is_member nat_eq (map (λ n. n / 2 ^ 42) (flat_map mapping_numbers gs)) q) ≡ true) (mapping_parts g (All-head IsOfScalars g gs all)).first h)

-- there are no more mappings in order than mapped characters
pub sorted_few : (ms : List GivenMapping) (sorted : List ℕ) → All IsOfScalars ms → AreFirstsInOrder (2 ^ 42) (flat_map mapping_numbers ms) sorted
    → length (map (λ n. n / 2 ^ 42) sorted) ≤ distinct_count nat_eq (map (λ g. g.character) ms)
sorted_few ms sorted all order =
    distinct_among (map (λ n. n / 2 ^ 42) sorted) (map (λ g. g.character) ms) (rising_distinct (2 ^ 42) sorted order.rise)
    (λ q m.
    number_keys ms q all
    (found_member (2 ^ 42) q (flat_map mapping_numbers ms) ∙ ap is_some (sym (order.firsts q)) ∙ sym (found_member (2 ^ 42) q sorted) ∙ m))

-- ---- What is built in are characters

low_all : (xs : List ℕ) → AllByRecursion (λ x. x < 0xd800) xs → All IsScalar xs
low_all [] h = All-nil IsScalar
low_all (x ∷ xs) h = All-cons IsScalar x xs (low_scalar x h.0) (low_all xs h.1)

pub built_in_scalars : All IsScalar built_in_named
built_in_scalars =
    low_all built_in_named (omega arith, (omega arith, (omega arith, (omega arith, (omega arith, (omega arith, (omega arith, (omega arith, (omega arith, (omega arith, (omega arith, (omega arith, (omega arith, (omega arith, (omega arith, (omega arith, (omega arith, tt)))))))))))))))))

pub compatible_scalars : All IsScalar (0xff9e ∷ 0xff9f ∷ [])
compatible_scalars =
    All-cons IsScalar 0xff9e (0xff9f ∷ []) (high_scalar 0xff9e (omega arith) (omega arith))
    (All-cons IsScalar 0xff9f [] (high_scalar 0xff9f (omega arith) (omega arith)) (All-nil IsScalar))
