-- A normal form of a text has the levels of the text, and comparing it is comparing the text.
use Rattle.std.proofs.Common.{◌≡◌, ℕ, List, ap}
use Rattle.std.specs.Prelude.{All}
use Rattle.std.specs.Char.{IsScalar}
use Rattle.icu_normalizer_core.specs.Canonical.{IsCanonical, IsDecomposing, decomposed, composed}
use Rattle.icu_normalizer.proofs.equivalence.NormalFormLemmas.{decomposed_twice, composed_decomposed}
use Rattle.icu_collator_types.specs.declared.options.ResolvedCollatorOptions.{ResolvedCollatorOptions}
use Rattle.icu_collator_core.specs.Collation.{Collation}
use Rattle.icu_collator.specs.Levels.{Levels, levels_of_text}
use Rattle.icu_collator.specs.Order.{collation_order, levels_order}
use Rattle.icu_collator.proofs.equivalence.IdenticalLemmas.{same_levels}

-- a text in the place of another with its decomposed list changes no answer
pub first_replaced : (collation : Collation) (options : ResolvedCollatorOptions) (a n b : List ℕ) → decomposed collation.canonical n ≡ decomposed collation.canonical a
    → collation_order collation options n b ≡ collation_order collation options a b
first_replaced collation options a n b e = ap (λ (l : Levels). levels_order options l (levels_of_text collation options b)) (same_levels collation options n a e)

pub second_replaced : (collation : Collation) (options : ResolvedCollatorOptions) (a b n : List ℕ) → decomposed collation.canonical n ≡ decomposed collation.canonical b
    → collation_order collation options a n ≡ collation_order collation options a b
second_replaced collation options a b n e = ap (λ (l : Levels). levels_order options (levels_of_text collation options a) l) (same_levels collation options n b e)

-- a normal form has the levels of the text
pub decomposed_levels : (collation : Collation) (options : ResolvedCollatorOptions) (a : List ℕ) → IsDecomposing collation.canonical → All IsScalar a
    → levels_of_text collation options (decomposed collation.canonical a) ≡ levels_of_text collation options a
decomposed_levels collation options a d s = same_levels collation options _ a (decomposed_twice collation.canonical a d s)

pub composed_levels : (collation : Collation) (options : ResolvedCollatorOptions) (a : List ℕ) → IsCanonical collation.canonical → All IsScalar a
    → levels_of_text collation options (composed collation.canonical a) ≡ levels_of_text collation options a
composed_levels collation options a d s = same_levels collation options _ a (composed_decomposed collation.canonical a d s)

-- a normal form of the first text or of the second changes no answer
pub decomposed_first : (collation : Collation) (options : ResolvedCollatorOptions) (a b : List ℕ) → IsDecomposing collation.canonical → All IsScalar a
    → collation_order collation options (decomposed collation.canonical a) b ≡ collation_order collation options a b
decomposed_first collation options a b d s = first_replaced collation options a _ b (decomposed_twice collation.canonical a d s)

pub decomposed_second : (collation : Collation) (options : ResolvedCollatorOptions) (a b : List ℕ) → IsDecomposing collation.canonical → All IsScalar b
    → collation_order collation options a (decomposed collation.canonical b) ≡ collation_order collation options a b
decomposed_second collation options a b d s = second_replaced collation options a b _ (decomposed_twice collation.canonical b d s)

pub composed_first : (collation : Collation) (options : ResolvedCollatorOptions) (a b : List ℕ) → IsCanonical collation.canonical → All IsScalar a
    → collation_order collation options (composed collation.canonical a) b ≡ collation_order collation options a b
composed_first collation options a b d s = first_replaced collation options a _ b (composed_decomposed collation.canonical a d s)

pub composed_second : (collation : Collation) (options : ResolvedCollatorOptions) (a b : List ℕ) → IsCanonical collation.canonical → All IsScalar b
    → collation_order collation options a (composed collation.canonical b) ≡ collation_order collation options a b
composed_second collation options a b d s = second_replaced collation options a b _ (composed_decomposed collation.canonical b d s)
