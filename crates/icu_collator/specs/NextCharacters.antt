-- What stands next in two texts after what they have in common, and what it decides.
use Rattle.std.specs.Prelude.{◌≡◌, ℕ, All, List, Option, Some, None}
use Rattle.std.specs.Char.{IsScalar}
use Rattle.std.specs.declared.cmp.Ordering.{Ordering}
use Rattle.icu_normalizer_core.specs.Canonical.{IsDecomposing}
use Rattle.icu_collator_types.specs.declared.options.ResolvedCollatorOptions.{ResolvedCollatorOptions}
use Rattle.icu_collator_core.specs.Collation.{Collation}
use Rattle.icu_collator.specs.Boundaries.{IsPlain}
use Rattle.icu_collator.specs.Fronts.{PartAt}
use Rattle.icu_collator.specs.Order.{collation_order}
use Rattle.icu_collator.specs.declared.common_front.deciding.NextCharacter.{NextCharacter}
use Rattle.icu_collator.specs.declared.common_front.deciding.NextCharacter.TheVariants.{End, Plain, Other}

-- what stands next in a text: nothing, a plain character with this element, or a character of which nothing is said
abbrev pub IsNext : Collation → Option ℕ → NextCharacter → Type 0
IsNext collation next End = next ≡ None
IsNext collation next (Plain bits) = (c : ℕ) × (next ≡ Some c) × IsPlain collation c bits
IsNext collation next Other = Unit {0}

-- an answer is the order of all texts that first differ in these
abbrev pub IsOrderOfNext : Collation → ResolvedCollatorOptions → NextCharacter → NextCharacter → Ordering → Type 0
IsOrderOfNext collation options left right answer =
    (a b : List ℕ) (common : ℕ) (first second : Option ℕ) → IsDecomposing collation.canonical → All IsScalar a → All IsScalar b
    → PartAt a b common first second → IsNext collation first left → IsNext collation second right
    → answer ≡ collation_order collation options a b
