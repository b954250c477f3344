-- What a sink holds after an error, and whose failure that error is.
use Rattle.std.specs.Prelude.{◌≡◌, ℕ, List, ◌++◌, Result, MatchResult}
use Rattle.icu_normalizer.specs.declared.sinks.NormError.{NormError}
use Rattle.icu_normalizer.specs.declared.sinks.NormError.TheVariants.{Sink, Memory}

-- the old contents, and a prefix of what was to be written
abbrev pub AddsPrefix : List ℕ → List ℕ → List ℕ → Type 0
AddsPrefix old bytes new = (written : List ℕ) × (left : List ℕ) × (bytes ≡ written ++ left) × (new ≡ old ++ written)

-- some writes led from the first sink to the second, and each was taken
pub data HasTaken {S : Type 0} (takes : S → S → Type 0) : S → S → Type 0 where
  nothing : (sink : S) → HasTaken takes sink sink
  more : (old middle new : S) → HasTaken takes old middle → takes middle new → HasTaken takes old new

-- Each write was taken, but for one that came last and gave the error, if that is the sink's.
abbrev pub EndsByFailure : {S E A : Type 0} → (S → S → Type 0) → (S → E → S → Type 0) → S → Result A (NormError E) → S → Type 0
EndsByFailure takes fails old result new =
    MatchResult
    result
    (λ _. HasTaken takes old new)
    (elim [ Memory ↦ HasTaken takes old new | Sink error ↦ (middle : _) × HasTaken takes old middle × fails middle error new ])
