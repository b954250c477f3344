-- A map that differs from another only at some characters has at most as many different blocks more as these characters stand in.
use Rattle.std.proofs.Common.{◌≡◌, ℕ, ◌+◌, ◌-◌, ◌*◌, ◌/◌, ◌<◌, ◌≤◌, inl, inr, ⊎_elim, Bool, true, false, ◌||◌, suc, List, [], ◌∷◌, ◌++◌, length, map, drop, slice_index, refl, sym, ap, subst, ◌∙◌, arith}
use Rattle.std.specs.Prelude.{nat_eq}
use Rattle.std.specs.List.{Contains}
use Rattle.std.specs.Set.{is_member, unique_keys}
use Rattle.std.proofs.lemmas.Bool.{cases_Bool, false≢true, or_left, or_right}
use Rattle.std.proofs.lemmas.Bool.Decides.{nat_tests}
use Rattle.std.proofs.lemmas.List.{get_or-drop, get_or-map, length-drop, length-map}
use Rattle.std.proofs.lemmas.List.Elements.{Contains-append_left, Contains-append_right}
use Rattle.icu_codepointtrie.specs.Blocks.{block, blocks, different_blocks, upper_blocks, upper_start}
use Rattle.icu_codepointtrie.specs.CodePointMaps.{CodePointMap, mapped}
use Rattle.icu_codepointtrie.proofs.built.BlockCountLemmas.{Same, among_blocks, block_among, count_below, whole_block}
use Rattle.icu_codepointtrie.proofs.built.BlockLemmas.{same_block}
use Rattle.icu_codepointtrie.proofs.built.UpperBlockLemmas.{count_joined, upper_blocks-le, upper_start_is}
use Rattle.icu_normalizer_core.specs.CharacterWords.{HasRightWords}
use Rattle.icu_normalizer_core.specs.Named.{block_count, narrow_block, wide_block}
use Rattle.icu_normalizer_core.specs.Settled.{IsAmong}
use Rattle.icu_normalizer_core.proofs.building.AcceptedMapsLimitLemmas.{members_kept}

-- ---- Counts

same_number : (j x : ℕ) → nat_eq j x ≡ true → x ≡ j
same_number j x t = grind (arith, nat_tests)

contains_later : (ys : List (List ℕ)) (y q : List ℕ) → Contains ys q → Contains (y ∷ ys) q
contains_later ys y q (k, below, is) = (suc k, omega (arith, below), is)

image_among : (f : ℕ → List ℕ) (xs : List ℕ) (j : ℕ) → is_member nat_eq xs j ≡ true → Contains (map f xs) (f j)
image_among f [] j e = absurd cc
image_among f (x ∷ xs) j e = by (nat_eq j x) refl (image_among f xs j) e
  where
    by : (b : Bool) → nat_eq j x ≡ b → (is_member nat_eq xs j ≡ true → Contains (map f xs) (f j)) → (b || is_member nat_eq xs j) ≡ true → Contains (f x ∷ map f xs) (f j)
    by true t later h = (0, omega arith, ap f (same_number j x t))
    by false t later h = contains_later (map f xs) (f x) (f j) (later h)

-- a character's block is one of those in which characters stand
in_block : (block_of : ℕ → ℕ) (named : List ℕ) (c j : ℕ) → block_of c ≡ j → IsAmong named c → is_member nat_eq (map block_of named) j ≡ true
in_block block_of [] c j e h = elim h [ ]
in_block block_of (x ∷ xs) c j e (inl same) = or_left (nat_eq j (block_of x)) (is_member nat_eq (map block_of xs) j) (equal (block_of x) j (ap block_of same ∙ e))
  where
    equal : (a b : ℕ) → a ≡ b → nat_eq b a ≡ true
    equal a b same = grind (arith, nat_tests)
in_block block_of (x ∷ xs) c j e (inr h) = or_right (nat_eq j (block_of x)) (is_member nat_eq (map block_of xs) j) (in_block block_of xs c j e h)

-- ---- Blocks of a map, from a code point on

module _ (width start : ℕ) (block_of : ℕ → ℕ) (is_block : (j k : ℕ) → k < width → block_of (start + (j * width + k)) ≡ j)
    (old new : CodePointMap ℕ) (named : List ℕ) (all_old : length old.values ≡ 0x11_0000) (all_new : length new.values ≡ 0x11_0000)
    (apart : (c : ℕ) → c ≤ 0x10_FFFF → (IsAmong named c → ⊥) → mapped new c ≡ mapped old c) where
  abbrev before : List ℕ
  before = map (λ n. n) (drop start old.values)

  abbrev after : List ℕ
  after = map (λ n. n) (drop start new.values)

  abbrev touched : List ℕ
  touched = unique_keys nat_eq (map block_of named)

  whole : (m : CodePointMap ℕ) → length m.values ≡ 0x11_0000 → length (map (λ n. n) (drop start m.values)) ≡ 0x11_0000 - start
  whole m all = length-map (drop start m.values) (λ n. n) ∙ length-drop start m.values ∙ ap (λ (n : ℕ). n - start) all

  value_in : (m : CodePointMap ℕ) (k : ℕ) → length m.values ≡ 0x11_0000 → k < 0x11_0000 - start → slice_index (map (λ n. n) (drop start m.values)) k ≡ mapped m (start + k)
  value_in m k all inside =
      get_or-map (λ n. n) (drop start m.values) k m.default 0 (omega (arith, inside, all, length-drop start m.values)) ∙ get_or-drop start m.values k m.default

  untouched : (j : ℕ) → j < (0x11_0000 - start) / width → is_member nat_eq (map block_of named) j ≡ false → block width after j ≡ block width before j
  untouched j h none =
      let inside = whole_block width (0x11_0000 - start) j h in
      same_block width after before j j (omega (arith, whole new all_new, inside)) (omega (arith, whole old all_old, inside))
      (λ k below.
      let c : ℕ = start + (j * width + k) in
      value_in new (j * width + k) all_new (omega (arith, inside))
      ∙ apart c (omega (arith, inside)) (λ among. false≢true (sym none ∙ in_block block_of named c j (is_block j k below) among))
      ∙ sym (value_in old (j * width + k) all_old (omega (arith, inside))))

  each_block : (q : List ℕ) → Contains (blocks width after) q → Contains (map (block width after) touched ++ blocks width before) q
  each_block q has =
      let at = among_blocks width after q has in
      let below : at.0 < (0x11_0000 - start) / width = let h = at.1 in subst (λ (n : ℕ). at.0 < n / width) (whole new all_new) h in
      ⊎_elim
      (λ t. Contains-append_left (map (block width after) touched) (blocks width before) q
      (subst (Contains (map (block width after) touched)) at.2 (image_among (block width after) touched at.0 (members_kept (map block_of named) at.0 ∙ t))))
      (λ f. Contains-append_right (map (block width after) touched) (blocks width before) q
      (block_among width before at.0 q (subst (λ (n : ℕ). at.0 < n / width) (sym (whole old all_old)) below) (sym (untouched at.0 below f) ∙ at.2)))
      (cases_Bool (is_member nat_eq (map block_of named) at.0))

  pub more_blocks : different_blocks (λ n. n) width (drop start new.values) ≤ block_count block_of named + different_blocks (λ n. n) width (drop start old.values)
  unfolding different_blocks
  more_blocks =
      omega (
        arith,
        count_below (blocks width after) (map (block width after) touched ++ blocks width before) each_block,
        count_joined Same (map (block width after) touched) (blocks width before),
        length-map touched (block width after),
      )

-- ---- A map with right words

module _ (IsRight : ℕ → ℕ → Type 0) (named : List ℕ) (words : CodePointMap ℕ) (has : HasRightWords IsRight named words) where
  differs : (c : ℕ) → c ≤ 0x10_FFFF → (IsAmong named c → ⊥) → mapped words c ≡ mapped has.none_set c
  differs c h none = has.others c h none ∙ sym (has.unnamed.each c h)

  pub wide_blocks : different_blocks (λ n. n) 512 words.values ≤ block_count wide_block named + 3
  wide_blocks =
      let more : different_blocks (λ n. n) 512 words.values ≤ block_count wide_block named + different_blocks (λ n. n) 512 has.none_set.values =
      more_blocks 512 0 wide_block (λ j k h. omega (arith, h)) has.none_set words named has.unnamed.all has.all differs in
      omega (arith, more, has.unnamed.wide)

  pub narrow_blocks : upper_blocks (λ n. n) words.values ≤ block_count narrow_block named + 3
  narrow_blocks =
      omega (
        arith,
        more_blocks 16 upper_start narrow_block (λ j k h. omega (arith, h, upper_start_is)) has.none_set words named has.unnamed.all has.all differs,
        upper_blocks-le (λ n. n) has.none_set.values,
        has.unnamed.narrow,
      )
