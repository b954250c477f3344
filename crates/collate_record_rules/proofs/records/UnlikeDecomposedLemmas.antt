-- Conversely, of a list that is its own decomposed list V7 asks nothing more.
use Rattle.std.proofs.Common.{◌≡◌, ℕ, ◌≤◌, Bool, true, false, cond, ltb, ◌==◌, ◌&&◌, List, [], ◌∷◌, length, All, Option, Some, None, refl, subst, arith}
use Rattle.std.specs.Prelude.{◌↔◌, is_some, unwrap_or, IfSome}
use Rattle.std.specs.List.{list_any}
use Rattle.std.specs.Char.{IsScalar}
use Rattle.std.proofs.lemmas.Bool.{and_parts, and_right, le-ltb, ltb-true, or_from, or_parts}
use Rattle.std.proofs.lemmas.List.Elements.{All-head, All-tail}
use Rattle.icu_normalizer_core.specs.BuiltIn.{built_in_step, is_built_in}
use Rattle.icu_normalizer_core.specs.Canonical.{IsDecomposing, decomposed, marks_in_order, put_in_order}
use Rattle.icu_normalizer_core.proofs.decomposed_lists.DecomposedLemmas.{AreUnmapped, decomposed_unmapped}
use Rattle.collate_lines.specs.Record.{Record, nothing, class, mapping, compatibility, weights, range, digit, setting}
use Rattle.collate_rules.specs.LineCounts.{KeepsCounts}
use Rattle.collate_rules.specs.Meaning.{canonical_of, class_of, first_found, mapping_in}
use Rattle.collate_rules.specs.RecordRules.{has_mapping, is_disordered, is_to_some, is_unlike_decomposed}
use Rattle.collate_record_rules.proofs.records.DecomposedTextLemmas.{own_decomposed}

-- ---- What is in order stays so

module _ (class_of : ℕ → ℕ) where
  -- whether the second of two characters is a mark of a lower class
  abbrev is_below : ℕ → ℕ → Bool
  is_below a b = ltb 0 (class_of b) && ltb (class_of b) (class_of a)

  not_below : (a b : ℕ) → class_of a ≤ class_of b → is_below a b ≡ false
  not_below a b h = and_right (ltb 0 (class_of b)) (ltb (class_of b) (class_of a)) (le-ltb (class_of b) (class_of a) h)

  -- what is put after a character of a lower class is in order after it
  put_behind : (c d : ℕ) (ds : List ℕ) → class_of d ≤ class_of c → is_disordered class_of (d ∷ ds) ≡ false
      → is_disordered class_of (put_in_order class_of c ds) ≡ false → is_disordered class_of (d ∷ put_in_order class_of c ds) ≡ false
  unfolding put_in_order
  put_behind c d [] low h k = or_from (is_below d c) false (not_below d c low) refl
  put_behind c d (e ∷ es) low h k =
      elim (is_below c e) as
      (λ b. is_disordered class_of (cond b (e ∷ put_in_order class_of c es) (c ∷ e ∷ es)) ≡ false
      → is_disordered class_of (d ∷ cond b (e ∷ put_in_order class_of c es) (c ∷ e ∷ es)) ≡ false) [
        | true ↦ λ rest. or_from (is_below d e) _ (or_parts (is_below d e) (is_disordered class_of (e ∷ es)) h).0 rest
        | false ↦ λ rest. or_from (is_below d c) _ (not_below d c low) rest
      ] k

  put_at : (c d : ℕ) (ds : List ℕ) (b : Bool) → is_below c d ≡ b → is_disordered class_of (d ∷ ds) ≡ false
      → is_disordered class_of (put_in_order class_of c ds) ≡ false → is_disordered class_of (cond b (d ∷ put_in_order class_of c ds) (c ∷ d ∷ ds)) ≡ false
  put_at c d ds true is h k =
      let low = ltb-true (class_of d) (class_of c) (and_parts (ltb 0 (class_of d)) (ltb (class_of d) (class_of c)) is).1
      in put_behind c d ds (omega (arith, low)) h k
  put_at c d ds false is h k = or_from (is_below c d) _ is h

  put_ordered : (c : ℕ) (ds : List ℕ) → is_disordered class_of ds ≡ false → is_disordered class_of (put_in_order class_of c ds) ≡ false
  unfolding put_in_order
  put_ordered c [] h = refl
  put_ordered c (d ∷ []) h = put_at c d [] (is_below c d) refl h refl
  put_ordered c (d ∷ e ∷ es) h =
      put_at c d (e ∷ es) (is_below c d) refl h (put_ordered c (e ∷ es) (or_parts (is_below d e) (is_disordered class_of (e ∷ es)) h).1)

  marks_ordered : (cs : List ℕ) → is_disordered class_of (marks_in_order class_of cs) ≡ false
  unfolding marks_in_order
  marks_ordered [] = refl
  marks_ordered (c ∷ cs) = put_ordered c (marks_in_order class_of cs) (marks_ordered cs)

-- ---- What has no step has no mapping

abbrev NamesSome : List ℕ → Type 0
NamesSome ds = 1 ≤ length ds

found_by : (b : Bool) (ds : List ℕ) (later : Option (List ℕ)) → NamesSome ds → IfSome later NamesSome
    → IfSome (elim (cond b (Some ds) None) as (λ _. Option (List ℕ)) [ Some y ↦ Some y | None ↦ later ]) NamesSome
found_by true ds later h k = h
found_by false ds later h k = k

-- a mapping that is found is to some characters
found_some : (c : ℕ) (lines : List Record) → All KeepsCounts lines → IfSome (first_found (mapping_in c) lines) NamesSome
found_some c [] all = tt
found_some c (nothing ∷ rs) all = found_some c rs (All-tail KeepsCounts _ rs all)
found_some c (class d k ∷ rs) all = found_some c rs (All-tail KeepsCounts _ rs all)
found_some c (mapping d ds x ∷ rs) all =
    found_by (c == d) ds (first_found (mapping_in c) rs) (All-head KeepsCounts (mapping d ds x) rs all) (found_some c rs (All-tail KeepsCounts _ rs all))
found_some c (compatibility d ds ∷ rs) all = found_some c rs (All-tail KeepsCounts _ rs all)
found_some c (weights l p t es ∷ rs) all = found_some c rs (All-tail KeepsCounts _ rs all)
found_some c (range r ∷ rs) all = found_some c rs (All-tail KeepsCounts _ rs all)
found_some c (digit d v ∷ rs) all = found_some c rs (All-tail KeepsCounts _ rs all)
found_some c (setting s ∷ rs) all = found_some c rs (All-tail KeepsCounts _ rs all)

none_by_kind : (b : Bool) (o p : Option (List ℕ)) → IfSome p NamesSome → cond b (unwrap_or o []) (unwrap_or p []) ≡ []
    → cond b (is_to_some o) (is_some p) ≡ false
none_by_kind true None p some h = refl
none_by_kind true (Some []) p some h = refl
none_by_kind true (Some (d ∷ ds)) p some h = absurd (cc)
none_by_kind false o None some h = refl
none_by_kind false o (Some []) some h = absurd (omega (arith, some))
none_by_kind false o (Some (d ∷ ds)) some h = absurd (cc)

none_mapped : (lines : List Record) (list : List ℕ) → All KeepsCounts lines → AreUnmapped (canonical_of lines) list
    → list_any (has_mapping lines) list ≡ false
none_mapped lines [] counts h = refl
none_mapped lines (c ∷ cs) counts h =
    or_from (has_mapping lines c) (list_any (has_mapping lines) cs)
    (none_by_kind (is_built_in c) (built_in_step c) (first_found (mapping_in c) lines) (found_some c lines counts) h.0)
    (none_mapped lines cs counts h.1)

-- ---- Both ways

like_decomposed : (lines : List Record) (list : List ℕ) → All KeepsCounts lines → IsDecomposing (canonical_of lines) → All IsScalar list
    → decomposed (canonical_of lines) list ≡ list → is_unlike_decomposed lines list ≡ false
unfolding decomposed
like_decomposed lines list counts steady scalars same =
    or_from (list_any (has_mapping lines) list) (is_disordered (class_of lines) list)
    (none_mapped lines list counts (subst (AreUnmapped (canonical_of lines)) same (decomposed_unmapped (canonical_of lines) list steady scalars)))
    (subst (λ (ys : List ℕ). is_disordered (class_of lines) ys ≡ false) same (marks_ordered (class_of lines) _))

pub told_by_decomposed : (lines : List Record) (list : List ℕ) → All KeepsCounts lines → IsDecomposing (canonical_of lines) → All IsScalar list
    → (is_unlike_decomposed lines list ≡ false) ↔ (decomposed (canonical_of lines) list ≡ list)
told_by_decomposed lines list counts steady scalars =
    (own_decomposed lines list, like_decomposed lines list counts steady scalars)
