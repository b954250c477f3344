-- Weights with the lines that give them.
use Rattle.std.specs.Prelude.{◌≡◌, ℕ, ◌+◌, ◌*◌, ◌^◌, Bool, ◌&&◌, leb, List, [], ◌∷◌, ◌++◌, length, map, filter}
use Rattle.std.specs.List.{list_all}
use Rattle.std.specs.List.Sorted.{IsPermutation}
use Rattle.icu_collator_types.specs.declared.elements.Element.{Element}
use Rattle.icu_collator_core.specs.WeightRules.{are_apart, primary_bytes}
use Rattle.collate_lines.specs.Record.{Record}
use Rattle.collate_rules.specs.GivenWeights.{elements_of}
use Rattle.collate_weight_rules.specs.declared.apart.ApartTest.{ApartTest}

-- the elements of lines, each with its line; the first of the lines has a number
abbrev pub placed_elements : ℕ → List Record → List (Element × ℕ)
placed_elements n [] = []
placed_elements n (r ∷ rs) = map (λ e. (e, n)) (elements_of r) ++ placed_elements (n + 1) rs

-- the weights that lines up to one give
abbrev pub weights_to : List (ℕ × ℕ) → ℕ → List ℕ
weights_to placed line = map (λ p. p.0) (filter (λ p. leb p.1 line) placed)

-- none of weights begins another one
abbrev pub are_weights_apart : List ℕ → Bool
are_weights_apart weights = list_all (λ v. list_all (are_apart primary_bytes v) weights) weights

-- no weight of lines up to one begins another one on its level
abbrev pub are_apart_to : ApartTest → ℕ → Bool
are_apart_to test line =
    (are_weights_apart (weights_to test.primaries.items line) && are_weights_apart (weights_to test.secondaries.items line))
    && are_weights_apart (weights_to test.tertiaries.items line)

-- a test has the weights of lines, each level in some order
pub record HasPlaced (records : List Record) (test : ApartTest) : Type 0 where
  pub count : test.count ≡ length records
  pub primaries : IsPermutation (map (λ p. (p.0.primary, p.1)) (placed_elements 0 records)) test.primaries.items
  pub secondaries : IsPermutation (map (λ p. (p.0.secondary * 2 ^ 16, p.1)) (placed_elements 0 records)) test.secondaries.items
  pub tertiaries : IsPermutation (map (λ p. (p.0.tertiary * 2 ^ 16, p.1)) (placed_elements 0 records)) test.tertiaries.items
