-- Lists whose characters are scalar values, by a test of each.
use Rattle.std.proofs.Common.{◌≡◌, ℕ, true, ◌&&◌, List, [], ◌∷◌, ◌++◌, refl, ◌∙◌, ap}
use Rattle.std.specs.Char.{IsScalar}
use Rattle.std.specs.Prelude.{All}
use Rattle.std.proofs.lemmas.Bool.{and_parts}
use Rattle.std.proofs.lemmas.List.Elements.{recursion_from_All}
use lib.Utf8.{scalar, scalars}
use Rattle.icu_normalizer_core.specs.Canonical.{Canonical, IsDecomposing, decomposed}
use Rattle.icu_normalizer_core.proofs.decomposed_lists.DecomposedLemmas.{AreScalar, decomposed_all_scalars}

pub scalars_are : (cs : List ℕ) → AreScalar cs → scalars cs ≡ true
scalars_are [] h = refl
scalars_are (c ∷ cs) h = ap (λ b. b && scalars cs) h.0 ∙ scalars_are cs h.1

pub scalars_parts : (xs ys : List ℕ) → scalars (xs ++ ys) ≡ true → (scalars xs ≡ true) × (scalars ys ≡ true)
scalars_parts [] ys h = (refl, h)
scalars_parts (x ∷ xs) ys h =
    let parts = and_parts (scalar x) (scalars (xs ++ ys)) h
    in let rest = scalars_parts xs ys parts.1
    in (ap (λ b. b && scalars xs) parts.0 ∙ rest.0, rest.1)

-- the characters of a decomposed list are scalar values
pub decomposed_characters : (canonical : Canonical) (text : List ℕ) → IsDecomposing canonical → All IsScalar text → scalars (decomposed canonical text) ≡ true
decomposed_characters canonical text d h =
    scalars_are (decomposed canonical text) (recursion_from_All IsScalar (decomposed canonical text) (decomposed_all_scalars canonical text d h))
