-- The decomposed list of a text at a starter: that of what stands before, then that of the rest.
use Rattle.std.proofs.Common.{◌≡◌, ℕ, ◌≤◌, List, [], ◌∷◌, ◌++◌, length, sym, ap, ◌∙◌, arith, append_assoc, length-append}
use Rattle.std.specs.List.{AllByRecursion}
use Rattle.std.specs.Prelude.{flat_map}
use Rattle.std.proofs.lemmas.List.Concat.{flat_map-append}
use Rattle.icu_normalizer_core.specs.Canonical.{Canonical, decomposed, marks_in_order}
use Rattle.icu_normalizer_core.proofs.decomposed_lists.DecomposedLemmas.{all_append, order_before}
use Rattle.icu_normalizer.proofs.noted.OwnLemmas.{order_all}

module _ (canonical : Canonical) where
  abbrev full : ℕ → List ℕ
  full = canonical.full

  -- what stands after the first of a full list
  unfoldable pub behind_first : List ℕ → List ℕ → List ℕ
  behind_first others y = marks_in_order canonical.class (others ++ flat_map full y)

  -- a character whose full list begins with a starter
  pub decomposed_at : (x y : List ℕ) (c d : ℕ) (ds : List ℕ) → full c ≡ d ∷ ds → canonical.class d ≡ 0
      → decomposed canonical (x ++ c ∷ y) ≡ decomposed canonical x ++ d ∷ behind_first ds y
  unfolding decomposed behind_first
  decomposed_at x y c d ds is starter =
      ap (marks_in_order canonical.class) (flat_map-append full x (c ∷ y) ∙ ap (λ (w : List ℕ). flat_map full x ++ (w ++ flat_map full y)) is)
      ∙ order_before canonical.class d (flat_map full x) (ds ++ flat_map full y) starter

  -- such a character after others
  behind_at : (others m y : List ℕ) (c d : ℕ) (ds : List ℕ) → full c ≡ d ∷ ds → canonical.class d ≡ 0
      → behind_first others (m ++ c ∷ y) ≡ behind_first others m ++ d ∷ behind_first ds y
  unfolding behind_first
  behind_at others m y c d ds is starter =
      ap (λ (w : List ℕ). marks_in_order canonical.class (others ++ w))
      (flat_map-append full m (c ∷ y) ∙ ap (λ (w : List ℕ). flat_map full m ++ (w ++ flat_map full y)) is)
      ∙ ap (marks_in_order canonical.class) (sym (append_assoc others (flat_map full m) (d ∷ ds ++ flat_map full y)))
      ∙ order_before canonical.class d (others ++ flat_map full m) (ds ++ flat_map full y) starter

  -- what holds of each character of the full lists holds of each after the first
  behind_all : (P : ℕ → Type 0) (others y : List ℕ) → AllByRecursion P others → AllByRecursion (λ c. AllByRecursion P (full c)) y
      → AllByRecursion P (behind_first others y)
  unfolding behind_first
  behind_all P others y h g = order_all P canonical.class (others ++ flat_map full y) (all_append P others (flat_map full y) h (each y g))
    where
      each : (cs : List ℕ) → AllByRecursion (λ c. AllByRecursion P (full c)) cs → AllByRecursion P (flat_map full cs)
      each [] h = tt
      each (c ∷ cs) h = all_append P (full c) (flat_map full cs) h.0 (each cs h.1)

  -- the decomposed list from the first of three such characters up to where that of the third begins
  module _ (m n : List ℕ) (d e f : ℕ) (ds es : List ℕ) where
    unfoldable pub three_behind : List ℕ
    three_behind = behind_first ds m ++ e ∷ (behind_first es n ++ f ∷ [])

    abbrev pub three_full : List ℕ
    three_full = d ∷ three_behind

    three_full_behind : (r : List ℕ) → three_full ++ r ≡ d ∷ (behind_first ds m ++ e ∷ (behind_first es n ++ f ∷ r))
    unfolding three_behind
    three_full_behind r =
        ap (λ (w : List ℕ). d ∷ w)
        (append_assoc (behind_first ds m) (e ∷ (behind_first es n ++ f ∷ [])) r
        ∙ ap (λ (w : List ℕ). behind_first ds m ++ e ∷ w) (append_assoc (behind_first es n) (f ∷ []) r))

    pub three_full_count : 3 ≤ length three_full
    unfolding three_behind
    three_full_count =
        let one = length-append (behind_first ds m) (e ∷ (behind_first es n ++ f ∷ []))
        in let two = length-append (behind_first es n) (f ∷ [])
        in omega (arith, one, two)

    pub three_full_all : (P : ℕ → Type 0) → P d → AllByRecursion P ds → AllByRecursion (λ c. AllByRecursion P (full c)) m
        → P e → AllByRecursion P es → AllByRecursion (λ c. AllByRecursion P (full c)) n → P f → AllByRecursion P three_full
    unfolding three_behind
    three_full_all P one ones between two twos further three = (
      one,
      all_append P (behind_first ds m) (e ∷ (behind_first es n ++ f ∷ [])) (behind_all P ds m ones between)
          (two, all_append P (behind_first es n) (f ∷ []) (behind_all P es n twos further) (three, tt)),
    )

    pub decomposed_three : (x y : List ℕ) (a b c : ℕ) (fs : List ℕ) → full a ≡ d ∷ ds → full b ≡ e ∷ es → full c ≡ f ∷ fs
        → canonical.class d ≡ 0 → canonical.class e ≡ 0 → canonical.class f ≡ 0
        → decomposed canonical (x ++ a ∷ (m ++ b ∷ (n ++ c ∷ y))) ≡ decomposed canonical x ++ (three_full ++ behind_first fs y)
    decomposed_three x y a b c fs full_a full_b full_c first second third =
        decomposed_at x (m ++ b ∷ (n ++ c ∷ y)) a d ds full_a first
        ∙ ap (λ (w : List ℕ). decomposed canonical x ++ w)
        (ap (λ (w : List ℕ). d ∷ w)
        (behind_at ds m (n ++ c ∷ y) b e es full_b second
        ∙ ap (λ (w : List ℕ). behind_first ds m ++ e ∷ w) (behind_at es n y c f fs full_c third))
        ∙ sym (three_full_behind (behind_first fs y)))
