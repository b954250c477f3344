-- The steps of the form of a cluster.
use Rattle.std.proofs.Common.{◌≡◌, ℕ, false, List, [], ◌∷◌, ◌++◌, flat_map, Option, Some, None, IfNone, sym, ap, ◌∙◌}
use Rattle.std.specs.Prelude.{Result, Ok, Err, OnOk}
use Rattle.std.specs.Result.{is_err}
use Rattle.icu_normalizer_core.specs.Canonical.{Canonical, marks_in_order, decomposed, recomposed, composed}
use Rattle.icu_normalizer_core.specs.declared.decomposition.run.Run.{Run}
use Rattle.icu_normalizer_core.specs.Run.{reordered, held, KeepsOutput, data_of as run_data}
use Rattle.icu_normalizer_core.proofs.decomposed_lists.RunLemmas.{order_nothing, reordered_empty}
use Rattle.icu_normalizer.specs.declared.composing.composer.Composer.{Composer}
use Rattle.icu_normalizer.specs.Composer.{coming, IsIdle, KeepsComposed, data_of as composer_data}
use Rattle.icu_normalizer.proofs.composed.ComposerLemmas.{coming_idle}

-- nothing was read
pub read_none : (run : Run) (k : Canonical) (cs : List ℕ) → held run ≡ 0 → run_data run ≡ k → reordered run (flat_map k.full cs) ≡ decomposed k cs
unfolding decomposed
read_none run k cs empty same =
    reordered_empty run (flat_map k.full cs) empty ∙ ap (λ (d : Canonical). marks_in_order d.class (flat_map k.full cs)) same

-- a character was read
pub read_more : (old new : Run) (k : Canonical) (ahead all : List ℕ) (c : ℕ) (cs : List ℕ) → run_data old ≡ k → KeepsOutput old ((run_data old).full c) [] new → ahead ≡ c ∷ cs
    → reordered old (flat_map k.full ahead) ≡ all → reordered new (flat_map k.full cs) ≡ all
read_more old new k ahead all c cs same keeps next e =
    sym (keeps.at (flat_map k.full cs)) ∙ ap (λ (d : Canonical). reordered old (d.full c ++ flat_map k.full cs)) same ∙ ap (λ l. reordered old (flat_map k.full l)) (sym next) ∙ e

-- all was read
pub read_all : (old new : Run) (composer : Composer) (k : Canonical) (ahead cs : List ℕ) → IsIdle composer → composer_data composer ≡ k → ahead ≡ [] → reordered old (flat_map k.full ahead) ≡ decomposed k cs
    → reordered new [] ≡ reordered old [] → coming composer (reordered new []) ≡ composed k cs
unfolding composed
read_all old new composer k ahead cs idle same none e done =
    coming_idle composer (reordered new []) idle ∙ ap (λ (d : Canonical). recomposed d (reordered new [])) same
    ∙ ap (recomposed k) (done ∙ ap (λ l. reordered old (flat_map k.full l)) (sym none) ∙ e)

-- a decomposed character went from the run to the composer
pub left_pushed : (old new : Composer) (run after : Run) (c : ℕ) (written : List ℕ) → KeepsOutput run [] (c ∷ []) after → KeepsComposed old (c ∷ []) written new
    → coming old (reordered run []) ≡ written ++ coming new (reordered after [])
left_pushed old new run after c written popped pushed = ap (coming old) (popped.at []) ∙ pushed.at (reordered after [])

-- the run is empty
pub nothing_left : (run : Run) → held run ≡ 0 → reordered run [] ≡ []
nothing_left run empty = reordered_empty run [] empty ∙ order_nothing (run_data run).class

pub left_ended : (old new : Composer) (run after : Run) (out : List ℕ) → KeepsOutput run [] [] after → held after ≡ 0 → coming old [] ≡ out ++ coming new []
    → coming old (reordered run []) ≡ out ++ coming new (reordered after [])
left_ended old new run after out popped empty e =
    ap (coming old) (popped.at [] ∙ nothing_left after empty) ∙ e ∙ ap (λ l. out ++ coming new l) (sym (nothing_left after empty))

pub left_done : (composer : Composer) (run : Run) (out : Option ℕ) → held run ≡ 0 → IfNone out (coming composer [] ≡ []) → IfNone out (coming composer (reordered run []) ≡ [])
left_done composer run None empty done = ap (coming composer) (nothing_left run empty) ∙ done
left_done composer run (Some c) empty done = tt

-- a call that did not fail succeeded
pub ok_unless_err : {A E : Type 0} → (P : Type 0) (r : Result A E) → false ≡ is_err r → OnOk r P → P
ok_unless_err P (Ok x) e h = h
ok_unless_err P (Err x) e h = cc
