-- A map that differs from another only at some characters: it has at most as many different blocks more as the blocks of
-- these characters are.
use Rattle.std.proofs.Common.{◌≡◌, ℕ, ◌+◌, ◌-◌, ◌*◌, ◌/◌, ◌<◌, ◌≤◌, ◌==◌, ◌||◌, Bool, true, false, cond, List, [], ◌∷◌, ◌++◌, length, map, drop, get_or, refl, sym, ap, ◌∙◌, subst, arith}
use Rattle.std.specs.List.{Contains}
use Rattle.std.specs.Set.{distinct_count, is_member, unique_keys}
use Rattle.std.proofs.lemmas.Bool.{eq-eqb, eqb-true, false_from_ne_true, false≢true, or_left, or_right}
use Rattle.std.proofs.lemmas.List.{get_or-drop, get_or-map, length-drop, length-map}
use Rattle.std.proofs.lemmas.List.Folds.{list_any-append}
use Rattle.std.proofs.lemmas.Map.Made.{is_member-Decides}
use Rattle.std.proofs.lemmas.Slice.Eq.{bytes_eq-Decides}
use Rattle.icu_codepointtrie.specs.Blocks.{block, blocks, different_blocks}
use Rattle.icu_codepointtrie.proofs.built.BlockCountLemmas.{Same, among_blocks, block_among, count_below, whole_block}
use Rattle.icu_codepointtrie.proofs.built.BlockLemmas.{same_block}
use Rattle.collate_rules.specs.Rules.{different}
use Rattle.collate_compile.proofs.gathering.NameLemmas.{is_among}

-- ---- One list more than others

one_more : (b : List ℕ) (bs : List (List ℕ)) → distinct_count Same (b ∷ bs) ≤ distinct_count Same bs + 1
one_more b bs = by (is_member Same bs b)
  where
    by : (t : Bool) → length (cond t (unique_keys Same bs) (b ∷ unique_keys Same bs)) ≤ length (unique_keys Same bs) + 1
    by true = omega arith
    by false = omega arith

-- none, if it is among them
none_more : (b : List ℕ) (bs : List (List ℕ)) → is_member Same bs b ≡ true
    → distinct_count Same (b ∷ bs) ≤ distinct_count Same bs
none_more b bs = by (is_member Same bs b)
  where
    by : (t : Bool) → t ≡ true
        → length (cond t (unique_keys Same bs) (b ∷ unique_keys Same bs)) ≤ length (unique_keys Same bs)
    by true e = omega arith
    by false e = absurd (false≢true e)

-- ---- What is among a list is so in another form

member_mapped : (f : ℕ → List ℕ) (p : ℕ) (ps : List ℕ) → is_among p ps ≡ true → is_member Same (map f ps) (f p) ≡ true
member_mapped f p [] h = absurd (false≢true h)
member_mapped f p (q ∷ qs) h = by (p == q) refl h (member_mapped f p qs)
  where
    by : (t : Bool) → (p == q) ≡ t → (t || is_among p qs) ≡ true
        → (is_among p qs ≡ true → is_member Same (map f qs) (f p) ≡ true) → is_member Same (map f (q ∷ qs)) (f p) ≡ true
    by true e k later =
        or_left (Same (f p) (f q)) (is_member Same (map f qs) (f p))
        ((bytes_eq-Decides (f p) (f q)).1 (ap f (eqb-true p q e)))
    by false e k later = or_right (Same (f p) (f q)) (is_member Same (map f qs) (f p)) (later k)

among_mapped : (f : ℕ → ℕ) (c : ℕ) (cs : List ℕ) → is_among c cs ≡ true → is_among (f c) (map f cs) ≡ true
among_mapped f c [] h = absurd (false≢true h)
among_mapped f c (d ∷ ds) h = by (c == d) refl h (among_mapped f c ds)
  where
    by : (t : Bool) → (c == d) ≡ t → (t || is_among c ds) ≡ true
        → (is_among c ds ≡ true → is_among (f c) (map f ds) ≡ true) → is_among (f c) (map f (d ∷ ds)) ≡ true
    by true e k later = or_left (f c == f d) (is_among (f c) (map f ds)) (eq-eqb (f c) (f d) (ap f (eqb-true c d e)))
    by false e k later = or_right (f c == f d) (is_among (f c) (map f ds)) (later k)

-- ---- Some lists more than others: as many different ones at most as what they are made of

some_more : (f : ℕ → List ℕ) (bs : List (List ℕ)) (ps : List ℕ)
    → distinct_count Same (map f ps ++ bs) ≤ distinct_count Same bs + different ps
unfolding different
some_more f bs [] = omega arith
some_more f bs (p ∷ ps) = by (is_among p ps) refl (some_more f bs ps)
  where
    by : (t : Bool) → is_among p ps ≡ t → distinct_count Same (map f ps ++ bs) ≤ distinct_count Same bs + different ps
        → distinct_count Same (f p ∷ (map f ps ++ bs))
        ≤ distinct_count Same bs + cond t (different ps) (1 + different ps)
    by true e few =
        omega (
          arith,
          few,
          none_more (f p) (map f ps ++ bs)
              (list_any-append (Same (f p)) (map f ps) bs
              ∙ or_left (is_member Same (map f ps) (f p)) (is_member Same bs (f p)) (member_mapped f p ps e)),
        )
    by false e few = omega (arith, few, one_more (f p) (map f ps ++ bs))

-- ---- Two lists of numbers, of the code points from one on, that are alike but at some

module _ (width start : ℕ) (block_of : ℕ → ℕ) (is_block : (j k : ℕ) → k < width → block_of (start + (j * width + k)) ≡ j)
    (xs ys cs : List ℕ) (count : length ys ≡ length xs)
    (same : (k : ℕ) → k < length xs → is_among (start + k) cs ≡ false → get_or ys k 0 ≡ get_or xs k 0) where
  indices : List ℕ
  indices = map block_of cs

  -- a block in which none of the indices is
  other_block : (j : ℕ) → is_among j indices ≡ false → j * width + width ≤ length xs → block width ys j ≡ block width xs j
  unfolding indices
  other_block j none whole =
      sym (same_block width xs ys j j whole (omega (arith, count, whole))
      (λ k h. sym (same (j * width + k) (omega (arith, whole)) (apart k h))))
    where
      apart : (k : ℕ) → k < width → is_among (start + (j * width + k)) cs ≡ false
      apart k h =
          false_from_ne_true (is_among (start + (j * width + k)) cs)
          (λ among.
          false≢true (sym none
          ∙ ap (λ (i : ℕ). is_among i (map block_of cs)) (sym (is_block j k h))
          ∙ among_mapped block_of (start + (j * width + k)) cs among))

  among : (q : List ℕ) → Contains (blocks width ys) q → Contains (map (block width ys) indices ++ blocks width xs) q
  among q in_ys =
      let from = among_blocks width ys q in_ys in
      (is_member-Decides bytes_eq-Decides (map (block width ys) indices ++ blocks width xs) q).0
      (list_any-append (Same q) (map (block width ys) indices) (blocks width xs)
      ∙ by from.0 from.1 from.2 (is_among from.0 indices) refl)
    where
      by : (j : ℕ) → j < length ys / width → block width ys j ≡ q → (t : Bool) → is_among j indices ≡ t
          → (is_member Same (map (block width ys) indices) q || is_member Same (blocks width xs) q) ≡ true
      by j inside is true e =
          or_left _ _ (subst (λ (b : List ℕ). is_member Same (map (block width ys) indices) b ≡ true) is
          (member_mapped (block width ys) j indices e))
      by j inside is false e =
          let below : j < length xs / width = subst (λ (n : ℕ). j < n / width) count inside in
          or_right _ _ ((is_member-Decides bytes_eq-Decides (blocks width xs) q).1
          (block_among width xs j q below
          (sym (other_block j e (whole_block width (length xs) j below)) ∙ is)))

  blocks_beside : distinct_count Same (blocks width ys)
      ≤ distinct_count Same (blocks width xs) + different (map block_of cs)
  unfolding indices
  blocks_beside =
      omega (
        arith,
        count_below (blocks width ys) (map (block width ys) indices ++ blocks width xs) among,
        some_more (block width ys) (blocks width xs) indices,
      )

-- a map that differs from another only at some code points
pub different_blocks-beside : {T : Type 0} (number : T → ℕ) (width start : ℕ) (block_of : ℕ → ℕ)
    → ((j k : ℕ) → k < width → block_of (start + (j * width + k)) ≡ j)
    → (old new : List T) (cs : List ℕ) (d e : T) → length new ≡ length old
    → ((c : ℕ) → c < length old → is_among c cs ≡ false → get_or new c d ≡ get_or old c e)
    → different_blocks number width (drop start new)
    ≤ different_blocks number width (drop start old) + different (map block_of cs)
unfolding different_blocks
different_blocks-beside {T} number width start block_of is_block old new cs d e count same =
    blocks_beside width start block_of is_block (map number (drop start old)) (map number (drop start new)) cs
    (length-map (drop start new) number ∙ lengths ∙ sym (length-map (drop start old) number))
    (λ k h other.
    let inside : k < length (drop start old) = omega (arith, h, length-map (drop start old) number) in
    let at : start + k < length old = omega (arith, inside, length-drop start old) in
    get_or-map number (drop start new) k d 0 (omega (arith, inside, lengths))
    ∙ ap number (get_or-drop start new k d ∙ same (start + k) at other ∙ sym (get_or-drop start old k e))
    ∙ sym (get_or-map number (drop start old) k e 0 inside))
  where
    lengths : length (drop start new) ≡ length (drop start old)
    lengths = length-drop start new ∙ ap (λ (n : ℕ). n - start) count ∙ sym (length-drop start old)
