-- A run of digits stands in the decomposed list of a text as it does in the text.
use Rattle.std.proofs.Common.{◌≡◌, ℕ, true, List, [], ◌∷◌, ◌++◌, refl, ap, ◌∙◌}
use Rattle.std.specs.Prelude.{flat_map}
use Rattle.std.specs.List.{list_all}
use Rattle.std.proofs.lemmas.Bool.{and_parts}
use Rattle.std.proofs.lemmas.List.Concat.{flat_map-append}
use Rattle.icu_normalizer_core.specs.Canonical.{decomposed, marks_in_order}
use Rattle.icu_normalizer_core.proofs.decomposed_lists.DecomposedLemmas.{order_before, put_starter}
use Rattle.icu_collator_core.specs.Collation.{Collation}
use Rattle.icu_collator.specs.NumbersInTexts.{AreDigitsAlone, is_digit}

-- a run of digits before a text
order_run : (collation : Collation) (run ms : List ℕ) → AreDigitsAlone collation → list_all (is_digit collation.weights) run ≡ true
    → marks_in_order collation.canonical.class (run ++ ms) ≡ run ++ marks_in_order collation.canonical.class ms
unfolding marks_in_order
order_run collation [] ms p h = refl
order_run collation (d ∷ run) ms p h =
    let both = and_parts (is_digit collation.weights d) (list_all (is_digit collation.weights) run) h
    in put_starter collation.canonical.class d (marks_in_order collation.canonical.class (run ++ ms)) (p.starters d both.0)
    ∙ ap (λ (w : List ℕ). d ∷ w) (order_run collation run ms p both.1)

full_run : (collation : Collation) (run ys : List ℕ) → AreDigitsAlone collation → list_all (is_digit collation.weights) run ≡ true
    → flat_map collation.canonical.full (run ++ ys) ≡ run ++ flat_map collation.canonical.full ys
full_run collation [] ys p h = refl
full_run collation (d ∷ run) ys p h =
    let both = and_parts (is_digit collation.weights d) (list_all (is_digit collation.weights) run) h
    in cc (p.own d both.0, full_run collation run ys p both.1)

pub decomposed_run : (collation : Collation) (x y : List ℕ) (d : ℕ) (run : List ℕ) → AreDigitsAlone collation
    → list_all (is_digit collation.weights) (d ∷ run) ≡ true
    → decomposed collation.canonical (x ++ ((d ∷ run) ++ y))
    ≡ decomposed collation.canonical x ++ ((d ∷ run) ++ decomposed collation.canonical y)
unfolding decomposed
decomposed_run collation x y d run p h =
    let full = collation.canonical.full
    in let class = collation.canonical.class
    in let both = and_parts (is_digit collation.weights d) (list_all (is_digit collation.weights) run) h
    in ap (marks_in_order class) (flat_map-append full x ((d ∷ run) ++ y) ∙ ap (λ (w : List ℕ). flat_map full x ++ w) (full_run collation (d ∷ run) y p h))
    ∙ order_before class d (flat_map full x) (run ++ flat_map full y) (p.starters d both.0)
    ∙ ap (λ (w : List ℕ). marks_in_order class (flat_map full x) ++ d ∷ w) (order_run collation run (flat_map full y) p both.1)
