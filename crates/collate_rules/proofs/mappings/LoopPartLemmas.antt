-- Loops of the steps that parts say.
use Rattle.std.proofs.Common.{◌≡◌, ◌≢◌, ℕ, List, [], ◌∷◌, ◌++◌, map, sym, ap, ◌∙◌, subst, Bool, cond, Option, ◌↔◌}
use Rattle.std.specs.Bool.{IsTrue}
use Rattle.std.specs.Option.{unwrap_or}
use Rattle.std.proofs.Math.Path.{fun_ext}
use Rattle.icu_normalizer_core.specs.BuiltIn.{built_in_step, built_in_compatibility_step, is_built_in}
use Rattle.icu_normalizer_core.specs.Canonical.{Reaches}
use Rattle.collate_rules.specs.declared.canonical_part.CanonicalPart.{CanonicalPart}
use Rattle.collate_lines.specs.Record.{Record}
use Rattle.collate_rules.specs.Meaning.{else_mapped, any_step}
use Rattle.collate_rules.specs.Rules.{HasLoop}
use Rattle.collate_rules.specs.CanonicalParts.{in_full, SaysSame, subject_of}
use Rattle.collate_rules.proofs.mappings.CanonicalPartLemmas.{any_step-same, first_found-other_mapping, first_found-other_compatibility, stated_push}
use Rattle.collate_rules.proofs.mappings.BuiltInFallLemmas.{built_in_falls}
use Rattle.collate_rules.proofs.mappings.LoopLemmas.{falling_never, loop_through}

pub HasLoop-steps : (lines others : List Record) → ((d : ℕ) → any_step lines d ≡ any_step others d) → HasLoop lines → HasLoop others
HasLoop-steps lines others agree loop = subst (λ (step : ℕ → List ℕ). (c : ℕ) × Reaches step (step c) c) (fun_ext agree) loop

pub HasLoop-same : (lines others : List Record) → SaysSame lines others → HasLoop lines → HasLoop others
HasLoop-same lines others same = HasLoop-steps lines others (λ d. any_step-same lines others d same)

pub HasLoop-none : HasLoop [] → ⊥
HasLoop-none loop = falling_never (any_step []) built_in_falls loop.0 loop.1

-- a step by what the lines' first mappings of the character are, canonical and by compatibility
step_by : ℕ → Option (List ℕ) → Option (List ℕ) → List ℕ
step_by c said other =
    unwrap_or (built_in_compatibility_step c)
    (else_mapped (cond (is_built_in c) (unwrap_or (built_in_step c) []) (unwrap_or said [])) (cond (is_built_in c) [] (unwrap_or other [])))

step_along : (c : ℕ) (m n o p : Option (List ℕ)) → m ≡ n → o ≡ p → step_by c m o ≡ step_by c n p
step_along c m n o p e f = ap (λ (x : Option (List ℕ)). step_by c x o) e ∙ ap (step_by c n) f

-- one part more on other characters changes no step of this one
any_step-other : (parts : List Record) (part : CanonicalPart) (d : ℕ) → d ≢ subject_of part → any_step (parts ++ in_full part ∷ []) d ≡ any_step parts d
unfolding step_by
any_step-other parts part d apart =
    step_along d _ _ _ _ (first_found-other_mapping parts part d apart) (first_found-other_compatibility parts part d apart)

-- where the parts before the last have no loop, all have one exactly if steps lead from the last part's character to itself
pub loop_tells : (before after : List CanonicalPart) (part : CanonicalPart) (c : ℕ) (b : Bool) → after ≡ before ++ part ∷ [] → c ≡ subject_of part
    → (IsTrue b ↔ Reaches (any_step (map in_full after)) (any_step (map in_full after) c) c) → (HasLoop (map in_full before) → ⊥)
    → IsTrue b ↔ HasLoop (map in_full after)
loop_tells before after part c b e at tells unbroken =
    let agree : (d : ℕ) → d ≢ c → any_step (map in_full after) d ≡ any_step (map in_full before) d = λ d apart.
    ap (λ (lines : List Record). any_step lines d) (stated_push before after part e) ∙ any_step-other (map in_full before) part d (λ same. apart (same ∙ sym at)) in (
      λ t. (c, tells.0 t),
      λ loop. tells.1 (loop_through (any_step (map in_full before)) (any_step (map in_full after)) c agree (λ y r. unbroken (y, r)) loop.0 loop.1),
    )
