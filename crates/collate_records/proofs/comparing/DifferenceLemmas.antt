-- Characters of which two files record differently, noted line by line.
use Rattle.std.proofs.Common.{◌≡◌, ◌≢◌, ℕ, ◌+◌, ◌<◌, ⊎_elim, Bool, true, false, not, ◌||◌, ◌==◌, List, [], ◌∷◌, ◌++◌, length, take, get_or, Some, map, refl, sym, ap, ◌∙◌, subst, All, slice_get}
use Rattle.std.specs.Prelude.{IsTrue, ◌↔◌}
use Rattle.std.specs.BTreeSet.{BTreeSet, contains}
use Rattle.std.specs.List.{AllByRecursion, list_any}
use Rattle.std.specs.Ordering.{is_eq, nat_cmp}
use Rattle.std.proofs.lemmas.Bool.{eqb-true, false≢true, or_cases}
use Rattle.std.proofs.lemmas.List.{append_assoc, map-append, take_more}
use Rattle.std.proofs.lemmas.List.Elements.{All-nil, All-push, recursion_from_All}
use Rattle.icu_collator_types.specs.declared.elements.Element.{Element}
use Rattle.collate_lines.specs.declared.record.Record.{Record as Line}
use Rattle.collate_lines.specs.Record.{Record, Layer, said, weights}
use Rattle.collate_rules.specs.Meaning.{digit_in, first_found, range_in, recorded_in}
use Rattle.collate_records.specs.Changes.{GivesSame, IsSaidAlike}
use Rattle.collate_records.specs.Differences.{AreDiffering, AreRecordedAlike, DiffersAlone}
use Rattle.collate_records.proofs.comparing.ChangeLemmas.{both_alike, given_alike, self_equal}

split : {X : Type 0} (P : X → Type 0) (xs ys : List X) → AllByRecursion P (xs ++ ys) → AllByRecursion P xs × AllByRecursion P ys
split P [] ys h = (tt, h)
split P (x ∷ xs) ys h = let rest = split P xs ys h.1 in ((h.0, rest.0), rest.1)

-- what tests true or not is false, where that can't be
false_where_not : (b : Bool) → (b ≡ true → ⊥) → b ≡ false
false_where_not true never = absurd (never refl)
false_where_not false never = refl

not_true : (b : Bool) → not b ≡ true → b ≡ false
not_true true e = absurd (false≢true e)
not_true false e = refl

false_left : (x y : Bool) → (x || y) ≡ false → x ≡ false
false_left true y e = e
false_left false y e = refl

false_right : (x y : Bool) → (x || y) ≡ false → y ≡ false
false_right true y e = absurd (false≢true (sym e))
false_right false y e = e

module _ (a b : List Record) where
  -- ---- One line

  -- the first of a text that is recorded otherwise
  pub first_differs : (layer : Layer) (prefix text : List ℕ) (es : List Element) (c : ℕ) → (recorded_in a prefix text ≡ recorded_in b prefix text → ⊥)
      → Some c ≡ slice_get text 0 → DiffersAlone a b (weights layer prefix text es) c
  first_differs layer prefix [] es c differ e = absurd (cc)
  first_differs layer prefix (d ∷ ds) es c differ e =
      let same : c ≡ d = cc in
      record {
        here = λ given. differ (given (subst (λ (x : ℕ). (x == d) ≡ true) (sym same) (self_equal d)));
        others = λ x apart is. absurd (apart (eqb-true x d is ∙ sym same));
      }

  -- ---- Lines

  pub line_alike : (done : List Record) (line : Record) (differing : BTreeSet ℕ) → ((c : ℕ) → GivesSame a b c line)
      → AreDiffering a b done differing → AreDiffering a b (done ++ line ∷ []) differing
  line_alike done line differing same noted = record {
    others = λ c is. All-push (GivesSame a b c) done line (noted.others c is) (same c);
    those = noted.those;
  }

  pub line_differs : (done : List Record) (line : Record) (old new : BTreeSet ℕ) (d : ℕ) → DiffersAlone a b line d
      → ((c : ℕ) → contains nat_cmp new c ≡ (contains nat_cmp old c || (c == d)))
      → AreDiffering a b done old → AreDiffering a b (done ++ line ∷ []) new
  line_differs done line old new d differs put noted = record { others = others; those = those }
    where
      others : (c : ℕ) → contains nat_cmp new c ≡ false → All (GivesSame a b c) (done ++ line ∷ [])
      others c is =
          let both : (contains nat_cmp old c || (c == d)) ≡ false = sym (put c) ∙ is in
          let other : (c == d) ≡ false = false_right (contains nat_cmp old c) (c == d) both in
          All-push (GivesSame a b c) done line (noted.others c (false_left (contains nat_cmp old c) (c == d) both))
          (differs.others c (λ same. false≢true (sym other ∙ subst (λ (x : ℕ). (c == x) ≡ true) same (self_equal c))))

      those : (c : ℕ) → contains nat_cmp new c ≡ true → AreRecordedAlike a b c → ⊥
      those c is alike =
          ⊎_elim (λ earlier. noted.those c earlier alike)
          (λ here. differs.here (subst (λ (x : ℕ). GivesSame a b x line) (eqb-true c d here) (given_alike a b c line alike)))
          (or_cases (contains nat_cmp old c) (c == d) (sym (put c) ∙ is))

  pub none_differing : (differing : BTreeSet ℕ) → differing.keys ≡ [] → AreDiffering a b [] differing
  none_differing differing empty = record {
    others = λ c is. All-nil (GivesSame a b c);
    those = λ c is. absurd (false≢true (sym (ap (λ (cs : List ℕ). list_any (λ x. is_eq (nat_cmp c x)) cs) empty) ∙ is));
  }

  -- one more line of some
  pub lines_more : (done : List Record) (lines : List Line) (i : ℕ) (line : Line) (differing : BTreeSet ℕ) → i < length lines → line ≡ get_or lines i line
      → AreDiffering a b ((done ++ map said (take i lines)) ++ said line ∷ []) differing
      → AreDiffering a b (done ++ map said (take (i + 1) lines)) differing
  lines_more done lines i line differing within is noted =
      let more : map said (take (i + 1) lines) ≡ map said (take i lines) ++ said line ∷ [] =
      ap (map said) (take_more lines i line within ∙ sym (ap (λ (l : Line). take i lines ++ l ∷ []) is))
      ∙ map-append said (take i lines) (line ∷ []) in
      subst (λ (ls : List Record). AreDiffering a b ls differing)
      (append_assoc done (map said (take i lines)) (said line ∷ []) ∙ sym (ap (λ (ls : List Record). done ++ ls) more)) noted

  -- ---- What is noted of all lines

  pub differing_tell : (differing : BTreeSet ℕ) (c : ℕ) → AreDiffering a b (a ++ b) differing
      → contains nat_cmp differing c ≡ false → AreRecordedAlike a b c
  differing_tell differing c noted is =
      let each = split (GivesSame a b c) a b (recursion_from_All (GivesSame a b c) (a ++ b) (noted.others c is)) in
      λ prefix rest. both_alike a b c prefix rest each.0 each.1

  pub alike_tell : (differing : BTreeSet ℕ) (c : ℕ) (lines : List Record) → AreDiffering a b lines differing
      → AreRecordedAlike a b c → contains nat_cmp differing c ≡ false
  alike_tell differing c lines noted alike = false_where_not (contains nat_cmp differing c) (λ is. noted.those c is alike)

  pub said_alike : (differing : BTreeSet ℕ) (c : ℕ) → first_found (range_in c) a ≡ first_found (range_in c) b
      → first_found (digit_in c) a ≡ first_found (digit_in c) b → AreDiffering a b (a ++ b) differing
      → IsTrue (not (contains nat_cmp differing c)) ↔ IsSaidAlike a b c
  said_alike differing c range digit noted = (
    λ is. record { range = range; digit = digit; recorded = differing_tell differing c noted (not_true (contains nat_cmp differing c) is) },
    λ same. ap not (alike_tell differing c (a ++ b) noted same.recorded),
  )
