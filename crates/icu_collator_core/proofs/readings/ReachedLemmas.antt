-- Data that say the same of each character that a text reaches give it one decomposed list and the same elements.
use Rattle.std.proofs.Common.{◌≡◌, ℕ, Bool, List, [], ◌∷◌, ◌++◌, sym, ap, subst, ◌∙◌}
use Rattle.std.proofs.lemmas.List.Elements.{recursion_from_All, All-from_recursion, All-contains, All-contains_itself}
use Rattle.std.specs.Char.{IsScalar}
use Rattle.std.specs.List.{All, AllByRecursion}
use Rattle.icu_normalizer_core.specs.Canonical.{Canonical, IsDecomposing, Reaches, stands, steps, Leaves, nothing, unmapped, mapped, decomposed}
use Rattle.icu_normalizer_core.proofs.decomposed_lists.DecomposedLemmas.{all_append, left_one}
use Rattle.icu_collator_core.specs.Weights.{Weights}
use Rattle.icu_collator_core.specs.Elements.{elements_of_list}
use Rattle.icu_collator_core.specs.Sameness.{AreSameMappings, AreSameReadings}
use Rattle.icu_collator_core.proofs.readings.AlikeDecomposedLemmas.{AreSameLists, decomposed_of, decomposed_same}
use Rattle.icu_collator_core.proofs.readings.SamenessLemmas.{alike_elements}

-- what is reached from what is reached
reaches_on : (step : ℕ → List ℕ) (text : List ℕ) (c d : ℕ) → Reaches step text c → Reaches step (step c) d → Reaches step text d
reaches_on step text c d (stands t x h) r = steps t x d h r
reaches_on step text c d (steps t x y h q) r = steps t x d h (reaches_on step (step x) y d q r)

-- scalar values reach scalar values
pub reached_scalar : (canonical : Canonical) (text : List ℕ) (c : ℕ) → IsDecomposing canonical → All IsScalar text → Reaches canonical.step text c → IsScalar c
reached_scalar canonical text c d h (stands t x k) = All-contains IsScalar t x h k
reached_scalar canonical text c d h (steps t x y k r) =
    reached_scalar canonical (canonical.step x) y d (d.scalars x (All-contains IsScalar t x h k)) r

module _ (a b : Canonical) (text : List ℕ) (decomposing : IsDecomposing a) (other : IsDecomposing b) (same : AreSameMappings (Reaches a.step text) a b) (scalars : All IsScalar text) where
  abbrev IsReached : ℕ → Type 0
  IsReached c = Reaches a.step text c

  brought : (c : ℕ) → IsReached c → All IsReached (a.step c)
  brought c r = λ k d lt. reaches_on a.step text c _ r (stands (a.step c) _ (All-contains_itself (a.step c) k d lt))

  text_reached : All IsReached text
  text_reached = λ k d lt. stands text _ (All-contains_itself text k d lt)

  -- what steps leave of reached characters is reached, and the other data's steps leave the same
  record IsLeftAlike (xs ns : List ℕ) : Type 0 where
    pub reached : AllByRecursion IsReached ns
    pub leaves : Leaves b.step xs ns

  left_alike : (xs ns : List ℕ) → AllByRecursion IsReached xs → Leaves a.step xs ns → IsLeftAlike xs ns
  left_alike xs ns h nothing = record { reached = tt; leaves = nothing }
  left_alike xs ns h (unmapped c cs ms u l) =
      let rest = left_alike cs ms h.1 l
      in record { reached = (h.0, rest.reached); leaves = unmapped c cs ms (sym (same.step c h.0) ∙ u) rest.leaves }
  left_alike xs ns h (mapped c d ds cs ms u l) =
      let first = recursion_from_All IsReached (d ∷ ds) (subst (All IsReached) u (brought c h.0))
      in let rest = left_alike ((d ∷ ds) ++ cs) ms (all_append IsReached (d ∷ ds) cs first h.1) l
      in record { reached = rest.reached; leaves = mapped c d ds cs ms (sym (same.step c h.0) ∙ u) rest.leaves }

  full_alike : (c : ℕ) → IsReached c → IsLeftAlike (c ∷ []) (a.full c)
  full_alike c r = left_alike (c ∷ []) (a.full c) (r, tt) (decomposing.ends c (reached_scalar a text c decomposing scalars r))

  full_same : (c : ℕ) → IsReached c → a.full c ≡ b.full c
  full_same c r =
      left_one b.step (c ∷ []) (a.full c) (b.full c) (full_alike c r).leaves (other.ends c (reached_scalar a text c decomposing scalars r))

  lists_alike : AreSameLists IsReached a b
  lists_alike =
      record {
        class = same.class;
        full = full_same;
        closed = λ c r. subst (All IsReached) (full_same c r) (All-from_recursion IsReached (a.full c) (full_alike c r).reached);
      }

  pub reached_decomposed : decomposed a text ≡ decomposed b text
  reached_decomposed = decomposed_same IsReached a b lists_alike text text_reached

  pub reached_elements : (v w : Weights) (numeric : Bool) → AreSameReadings IsReached v w
      → elements_of_list a v numeric (decomposed a text) ≡ elements_of_list b w numeric (decomposed b text)
  reached_elements v w numeric weights =
      ap (elements_of_list a v numeric) reached_decomposed
      ∙ alike_elements IsReached a b v w numeric same.class weights (decomposed b text) (decomposed_of IsReached a b lists_alike text text_reached)
