-- Mappings settled by a walk in depth.
use Rattle.std.proofs.Common.{◌≡◌, ℕ, ◌<◌, List, [], ◌∷◌, ◌++◌, length, set, slice_get, Bool, true, false, Option, Some, ◌∙◌, arith}
use Rattle.std.specs.List.{All}
use Rattle.std.proofs.lemmas.List.Elements.{All-push, All-pop}
use Rattle.icu_normalizer_core.specs.declared.builder.given.GivenCompatibility.{GivenCompatibility}
use Rattle.icu_normalizer_core.specs.declared.canonical.check.left.Left.{Left}
use Rattle.icu_normalizer_core.specs.SettledMappings.{AreMappingStarts}
use Rattle.icu_normalizer_core.proofs.settling.SettlingLemmas.{got_inside, written_length}

-- a walk: what is settled is right, each mapping has its mark, and on the way are indices of mappings
pub record IsMappingWalk (step : ℕ → List ℕ) (given : List GivenCompatibility) (settled : List (Option Left)) (visited : List Bool) (path : List ℕ) : Type 0 where
  pub starts : AreMappingStarts step given settled
  pub marks : length visited ≡ length given
  pub indices : All (λ index. index < length given) path

-- an index is left, and what is settled may change
pub mapping_popped : (step : ℕ → List ℕ) (given : List GivenCompatibility) (old new : List (Option Left)) (visited : List Bool) (path rest : List ℕ) (index : ℕ) → path ≡ rest ++ index ∷ []
    → IsMappingWalk step given old visited path → AreMappingStarts step given new → (index < length given) × IsMappingWalk step given new visited rest
mapping_popped step given old new visited path rest index e w starts =
    let parts = All-pop (λ (p : ℕ). p < length given) path rest (Some index) e w.indices in
    (parts.1, record { starts = starts; marks = w.marks; indices = parts.0 })

-- one that isn't visited is put above it
pub mapping_pushed : (step : ℕ → List ℕ) (given : List GivenCompatibility) (settled : List (Option Left)) (visited : List Bool) (rest : List ℕ) (index needed : ℕ)
    → IsMappingWalk step given settled visited rest → index < length given → slice_get visited needed ≡ Some false
    → IsMappingWalk step given settled (set visited needed true) ((rest ++ index ∷ []) ++ needed ∷ [])
mapping_pushed step given settled visited rest index needed w h e =
    let inside = got_inside visited needed false e in
    let marks = w.marks in
    let there : needed < length given = omega arith in
    record {
      starts = w.starts;
      marks = written_length visited needed true ∙ w.marks;
      indices = All-push (λ (p : ℕ). p < length given) (rest ++ index ∷ []) needed (All-push (λ (p : ℕ). p < length given) rest index w.indices h) there;
    }
