-- Characters that are read as by themselves wherever a boundary follows.
use Rattle.std.proofs.Common.{◌≡◌, ℕ, zero, suc, ◌≤◌, ◌==◌, true, false, ◌&&◌, List, [], ◌∷◌, ◌++◌, length, take, drop, Option, None, ⊎_elim, refl, sym, ◌∙◌, ap, arith, append-nil, length-append}
use Rattle.std.specs.List.{AllByRecursion}
use Rattle.std.specs.Option.{is_some, unwrap_or}
use Rattle.std.proofs.lemmas.Bool.{and_from, and_parts, and_right, false≢true}
use lib.Utf8.{scalar, scalars}
use Rattle.icu_normalizer_core.specs.Canonical.{Canonical}
use Rattle.icu_collator_types.specs.declared.elements.Element.{Element}
use Rattle.icu_collator_core.specs.Acceptance.{CollationSource}
use Rattle.icu_collator_core.specs.AlikeLists.{AreAlike}
use Rattle.icu_collator_core.specs.Boundaries.{after}
use Rattle.icu_collator_core.specs.Defaults.{default_elements, default_primary, special_primary}
use Rattle.icu_collator_core.specs.ElementLists.{unpacked}
use Rattle.icu_collator_core.specs.Elements.{Joining, Placed, Reading, characters_of, elements_of_list, elements_within, is_before_accent, joining, longest_prefix, match_length, number_reading, placed_behind, prefix_match, reading, text_match, text_reading}
use Rattle.icu_collator_core.specs.FlatNotes.{AreReadBefore, IsBoundaryApart, IsSteady, elements_behind}
use Rattle.icu_collator_core.specs.PlainWords.{IsUnprefixed}
use Rattle.icu_collator_core.specs.ReadSources.{canonical_by, weights_by}
use Rattle.icu_collator_core.specs.ReadSteps.{weights_for}
use Rattle.icu_collator_core.specs.Weights.{Weights}
use Rattle.icu_collator_core.proofs.lookups.MatchLemmas.{scalars_front}
use Rattle.icu_collator_core.proofs.lookups.PlacedLemmas.{characters_placed, length_placed, placed_append}
use Rattle.icu_collator_core.proofs.readings.AlikeLemmas.{chosen_alike, elements_alike, reading_is}
use Rattle.icu_collator_core.proofs.readings.CountLemmas.{any_count}
use Rattle.icu_collator_core.proofs.readings.ReadingLeftLemmas.{reading_left}
use Rattle.icu_collator_core.proofs.readings.SplitAtBoundaryLemmas.{nothing_within, split_at_boundary}

-- ---- characters that are no digits are read alike, whether numbers are read or not

module _ (canonical : Canonical) (weights : Weights) (numeric : Option ℕ) where
  abbrev led : Weights
  led = weights_for numeric weights

  joining_led : (text : List ℕ) (between ms : List Placed) → joining canonical led text between ms ≡ joining canonical weights text between ms
  unfolding joining
  joining_led text between [] = refl
  joining_led text between (m ∷ ms) = cc (joining_led (text ++ m.character ∷ []) between ms, joining_led text (between ++ m ∷ []) ms)

  text_led : (c : ℕ) (ps : List Placed) → text_reading canonical led c ps ≡ text_reading canonical weights c ps
  unfolding text_reading text_match default_primary
  text_led c ps =
      let list = characters_of ps in
      let n = match_length weights list in
      ap (λ (j : Joining). record { elements = unwrap_or (weights.recorded [] j.text) (default_elements weights c); left = j.left })
      (joining_led (take n list) [] (drop n ps))

  abbrev IsNoDigit : Placed → Type 0
  IsNoDigit p = weights.digit p.character ≡ None

  reading_led : (p : Placed) (ps : List Placed) → IsNoDigit p → reading canonical led (is_some numeric) p ps ≡ reading canonical weights false p ps
  reading_led p ps none =
      let uncounted : (is_some numeric && is_some (weights.digit p.character)) ≡ false =
      and_right (is_some numeric) (is_some (weights.digit p.character)) (ap (λ (o : Option ℕ). is_some o) none) in
      rw (reading_is canonical led (is_some numeric) p ps, reading_is canonical weights false p ps)
      (rw uncounted
      (chosen_alike (λ (x y : Reading). x ≡ y) (special_primary p.character) _ _ false (number_reading led (p ∷ ps)) (number_reading weights (p ∷ ps))
      (weights.dot_above && (p.character == 0x307) && is_before_accent ps) _ _ (prefix_match weights p) _ _ _ _
      (λ s. refl) (λ e. never e) refl (λ es. refl) (text_led p.character (p ∷ ps))))
    where
      never : {x y : Reading} → false ≡ true → x ≡ y
      never e = absurd (false≢true e)

  pub within_led : (n : ℕ) (ps : List Placed) → AllByRecursion IsNoDigit ps
      → elements_within n canonical led (is_some numeric) ps ≡ elements_within n canonical weights false ps
  unfolding elements_within
  within_led zero ps h = refl
  within_led (suc n) [] h = refl
  within_led (suc n) (p ∷ ps) h =
      let first = reading canonical weights false p ps in
      let left = reading_left canonical weights IsNoDigit false p ps h.0 h.1 in
      ap (λ (r : Reading). r.elements ++ elements_within n canonical led (is_some numeric) r.left) (reading_led p ps h.0)
      ∙ ap (λ (es : List Element). first.elements ++ es) (within_led n first.left left)

-- ---- characters with which no prefix is recorded are read alike after any

steady_alike : (weights : Weights) (xs ys list : List ℕ) → AllByRecursion (IsUnprefixed weights) list
    → scalars xs ≡ true → scalars ys ≡ true → scalars list ≡ true → AreAlike weights (placed_behind xs list) (placed_behind ys list)
unfolding placed_behind
steady_alike weights xs ys [] all s t ok = tt
steady_alike weights xs ys (c ∷ cs) all s t ok =
    let parts = and_parts (scalar c) (scalars cs) ok in
    let further : (zs : List ℕ) → scalars zs ≡ true → scalars (take longest_prefix (c ∷ zs)) ≡ true =
    λ zs z. scalars_front longest_prefix (c ∷ zs) (and_from (scalar c) (scalars zs) parts.0 z) in (
      refl,
      all.0 (record { character = c; before = xs }) refl s ∙ sym (all.0 (record { character = c; before = ys }) refl t),
      steady_alike weights (take longest_prefix (c ∷ xs)) (take longest_prefix (c ∷ ys)) cs all.1 (further xs s) (further ys t) parts.1,
    )

-- ---- characters before a boundary, and what stands from it on

module _ (source : CollationSource) (numeric : Option ℕ) where
  pub behind_boundary : (before list : List ℕ) (d : ℕ) (ds : List ℕ) → IsBoundaryApart source numeric d → scalars list ≡ true → scalars (d ∷ ds) ≡ true
      → elements_behind source numeric before (list ++ d ∷ ds)
      ≡ elements_behind source numeric before list ++ elements_behind source numeric (after before list) (d ∷ ds)
  unfolding placed_behind
  behind_boundary before list d ds apart ok s =
      let canonical = canonical_by source in
      let weights = weights_by numeric source in
      let counts = is_some numeric in
      let ps = placed_behind before list in
      let q : Placed = record { character = d; before = after before list } in
      let qs = placed_behind (take longest_prefix (d ∷ after before list)) ds in
      let n = length (list ++ d ∷ ds) in
      let split : placed_behind before (list ++ d ∷ ds) ≡ ps ++ q ∷ qs = placed_append before list (d ∷ ds) in
      let whole : length (ps ++ q ∷ qs) ≡ n = sym (ap length split) ∙ length_placed before (list ++ d ∷ ds) in
      let front : length ps ≡ length list = length_placed before list in
      let rest : length (q ∷ qs) ≡ length (d ∷ ds) = length_placed (after before list) (d ∷ ds) in
      let count = length-append list (d ∷ ds) in
      let behind : scalars (characters_of (q ∷ qs)) ≡ true = ap scalars (characters_placed (after before list) (d ∷ ds)) ∙ s in
      ap (λ (l : List Placed). elements_within n canonical weights counts l) split
      ∙ split_at_boundary canonical weights counts q qs apart.0 apart.1 behind n ps (ap scalars (characters_placed before list) ∙ ok) (omega (arith, whole))
      ∙ ap (λ (es : List Element). es ++ elements_within n canonical weights counts (q ∷ qs))
      (any_count canonical weights counts n (length list) ps (omega (arith, front, count)) (omega (arith, front)))
      ∙ ap (λ (es : List Element). elements_within (length list) canonical weights counts ps ++ es)
      (any_count canonical weights counts n (length (d ∷ ds)) (q ∷ qs) (omega (arith, rest, count)) (omega (arith, rest)))

-- ---- characters that are by themselves as they are after any, before a boundary

module _ (source : CollationSource) (numeric : Option ℕ) (list items : List ℕ) (ok : scalars list ≡ true)
    (itself : (before : List ℕ) → scalars before ≡ true → elements_behind source numeric before list ≡ unpacked items) where
  pub read_apart : AreReadBefore source numeric list 256 items
  unfolding placed_behind
  read_apart before [] b s fits =
      ap (λ (l : List ℕ). elements_behind source numeric before l) (append-nil list) ∙ itself before b
      ∙ sym (ap (λ (es : List Element). unpacked items ++ es) (nothing_within (canonical_by source) (weights_by numeric source) (is_some numeric) 0) ∙ append-nil (unpacked items))
  read_apart before (d ∷ ds) b s fits =
      ⊎_elim
      (λ (e : 256 ≤ 255). absurd (omega (arith, e)))
      (λ (apart : IsBoundaryApart source numeric d).
      behind_boundary source numeric before list d ds apart ok s
      ∙ ap (λ (es : List Element). es ++ elements_behind source numeric (after before list) (d ∷ ds)) (itself before b))
      fits

module _ (source : CollationSource) where
  unprefixed_all : (list : List ℕ) → AllByRecursion (IsSteady source) list → AllByRecursion (IsUnprefixed (weights_by None source)) list
  unprefixed_all [] h = tt
  unprefixed_all (c ∷ cs) h = (h.0.unprefixed, unprefixed_all cs h.1)

  no_digits : (before list : List ℕ) → AllByRecursion (IsSteady source) list
      → AllByRecursion (λ (p : Placed). (weights_by None source).digit p.character ≡ None) (placed_behind before list)
  unfolding placed_behind
  no_digits before [] h = tt
  no_digits before (c ∷ cs) h = (h.0.uncounted, no_digits (take longest_prefix (c ∷ before)) cs h.1)

  module _ (numeric : Option ℕ) (list items : List ℕ) (ok : scalars list ≡ true) (steady : AllByRecursion (IsSteady source) list)
      (are : unpacked items ≡ elements_of_list (canonical_by source) (weights_by None source) false list) where
    itself : (before : List ℕ) → scalars before ≡ true → elements_behind source numeric before list ≡ unpacked items
    itself before b =
        let canonical = canonical_by source in
        elements_alike canonical (weights_by numeric source) (is_some numeric) (length list) (placed_behind before list) (placed_behind [] list)
        (steady_alike (weights_by numeric source) before [] list (unprefixed_all list steady) b refl ok)
        ∙ within_led canonical (weights_by None source) numeric (length list) (placed_behind [] list) (no_digits [] list steady)
        ∙ sym are

    -- such characters, by what they are by themselves
    pub read_bounded : AreReadBefore source numeric list 256 items
    read_bounded = read_apart source numeric list items ok itself
