-- Characters at which reading may begin, as plain characters and as ones that two texts may be read from.
use Rattle.std.proofs.Common.{◌≡◌, ℕ, ◌==◌, ◌↔◌, Bool, true, false, IsTrue, List, [], ◌∷◌, sym, subst, ◌∙◌}
use Rattle.std.specs.Prelude.{not}
use Rattle.std.specs.Char.{IsScalar}
use Rattle.std.proofs.lemmas.Bool.{false≢true}
use Rattle.icu_normalizer_core.specs.Canonical.{Canonical, IsDecomposing}
use Rattle.icu_collator_core.specs.Acceptance.{CollationSource}
use Rattle.icu_collator_core.specs.PlainCharacters.{IsOwnBeginning, IsPlainCharacter}
use Rattle.icu_collator_core.specs.ReadSources.{IsAloneAnywhere}
use Rattle.icu_collator_core.specs.UnsafeCharacters.{IsSafe, IsUnsafe}
use Rattle.icu_collator_core.specs.Weights.{Weights}
use Rattle.icu_collator_core.proofs.unsafety.UnsafeLemmas.{safe_character}
use Rattle.icu_collator_core.specs.Boundaries.{IsBoundary}
use Rattle.icu_collator.specs.Boundaries.{IsPlain}
use Rattle.icu_collator.specs.Collators.{source_collation}
use Rattle.icu_collator_core.proofs.readings.SplitAtBoundaryLemmas.{starter_boundary}
use Rattle.icu_collator.proofs.boundaries.TableBoundaryLemmas.{alone_plain}

never_both : (told : Bool) → not told ≡ true → told ≡ true → ⊥
never_both true e f = false≢true e
never_both false e f = false≢true f

-- where a test of unsafe characters says no
pub safe_by : (canonical : Canonical) (weights : Weights) (c : ℕ) (told : Bool) → IsDecomposing canonical → IsScalar c
    → (IsTrue told ↔ IsUnsafe canonical weights c) → not told ≡ true → IsSafe canonical weights c
safe_by canonical weights c told decomposing scalar by safe =
    safe_character canonical weights c decomposing scalar (λ u. never_both told safe (by.1 u))

-- a character that is its own beginning
pub safe_beginning : (canonical : Canonical) (weights : Weights) (c : ℕ) → IsDecomposing canonical → IsScalar c
    → IsOwnBeginning canonical weights c → IsSafe canonical weights c
safe_beginning canonical weights c decomposing scalar begins = safe_character canonical weights c decomposing scalar begins.safe

-- the first character of the full list of one at which reading may begin
pub safe_boundary : (canonical : Canonical) (weights : Weights) (c first : ℕ) (others : List ℕ) → IsSafe canonical weights c
    → canonical.full c ≡ first ∷ others → IsBoundary canonical weights first
safe_boundary canonical weights c first others safe full =
    let lists : safe.first ∷ safe.rest ≡ first ∷ others = sym safe.full ∙ full
    in let same : safe.first ≡ first = cc
    in let boundary = starter_boundary canonical weights safe.first safe.starter
    (λ prefix x later es r w. safe.stands_first (record { prefix = prefix; first = x; later = later; elements = es; recorded = r; within = w }))
    (λ p ps later es r. safe.unprefixed (record { nearest = p; further = ps; later = later; elements = es; recorded = r }))
    in subst (λ d. IsBoundary canonical weights d) same boundary

pub safe_plain : (source : CollationSource) (c bits first : ℕ) (others : List ℕ) → IsDecomposing (source_collation source).canonical
    → IsSafe (source_collation source).canonical (source_collation source).weights c
    → (source_collation source).canonical.full c ≡ first ∷ others → (first == 0x303) ≡ false
    → IsAloneAnywhere source first bits → IsPlain (source_collation source) c bits
safe_plain source c bits first others decomposing safe full tilde alone =
    let collation = source_collation source
    in alone_plain source c bits first others decomposing full (safe_boundary collation.canonical collation.weights c first others safe full) tilde alone

-- a character of which the core says that it is plain
pub noted_plain : (source : CollationSource) (c bits : ℕ) → IsDecomposing (source_collation source).canonical → IsScalar c
    → (c == 0x303) ≡ false → IsPlainCharacter source c bits → IsPlain (source_collation source) c bits
noted_plain source c bits decomposing scalar tilde plain =
    let collation = source_collation source
    in safe_plain source c bits c [] decomposing (safe_beginning collation.canonical collation.weights c decomposing scalar plain.beginning)
    plain.beginning.own tilde plain.alone
