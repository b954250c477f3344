-- Characters that composing leaves alone, in data with the same classes and pairs; answers that are given one after another.
use Rattle.std.proofs.Common.{◌≡◌, ℕ, suc, zero, ◌⊎◌, inl, inr, ⊎_elim, Bool, true, List, [], ◌∷◌, ◌++◌, length, refl, sym, ap, subst, ◌∙◌}
use Rattle.std.specs.Char.{IsScalar}
use Rattle.icu_normalizer_core.specs.Boundaries.{IsSteady}
use Rattle.icu_normalizer_core.specs.Canonical.{Canonical, IsCanonical, composed, decomposed}
use Rattle.icu_normalizer_core.specs.CanonicalLists.{CanonicalLists, canonical_of}
use Rattle.icu_normalizer_core.specs.Compatibility.{compatibility_of}
use Rattle.icu_normalizer_core.specs.SteadyAnswers.{SaysYes, AreSteady}
use Rattle.icu_normalizer_core.specs.Words.{WordLists, full_in}
use Rattle.icu_normalizer_core.proofs.decomposed_lists.DecomposedLemmas.{decomposed_scalars}
use Rattle.icu_normalizer_core.proofs.building.AcceptedMapsSameLemmas.{recomposed_same}

-- a steady character with its canonical full list is steady by compatibility data too
module _ (lists : CanonicalLists) (words : WordLists) (c : ℕ) (keeps : IsCanonical (canonical_of lists)) (scalar : IsScalar c) (same : full_in words c ≡ (canonical_of lists).full c) where
  decomposed_alike : decomposed (compatibility_of lists words) (c ∷ []) ≡ decomposed (canonical_of lists) (c ∷ [])
  unfolding decomposed
  decomposed_alike = rw same refl

  composed_alike : composed (compatibility_of lists words) (c ∷ []) ≡ composed (canonical_of lists) (c ∷ [])
  unfolding composed
  composed_alike =
      rw decomposed_alike
      (recomposed_same (compatibility_of lists words) (canonical_of lists)
      (record { class = λ d s. refl; pair = λ x y s t. refl; scalars = keeps.composing.scalars })
      (decomposed (canonical_of lists) (c ∷ [])) (decomposed_scalars (canonical_of lists) (c ∷ []) keeps.decomposing (scalar, tt)))

  pub steady_alike : IsSteady (canonical_of lists) c → IsSteady (compatibility_of lists words) c
  steady_alike steady =
      let begins = steady.0 in
      ((begins.0, begins.1, same ∙ begins.2, begins.3, begins.4), composed_alike ∙ steady.1)

-- one more answer
said_more : (answers : List Bool) (b : Bool) (c : ℕ) → SaysYes (answers ++ b ∷ []) c → SaysYes answers c ⊎ ((c ≡ length answers) × (b ≡ true))
said_more [] b zero said = inr (refl, cc)
said_more [] b (suc c) said = absurd (cc)
said_more (x ∷ xs) b zero said = inl said
said_more (x ∷ xs) b (suc c) said = ⊎_elim (λ before. inl before) (λ here. inr (ap suc here.0, here.1)) (said_more xs b c said)

-- answers given one after another, each with what it says
pub steady_none : (canonical : Canonical) → AreSteady canonical []
steady_none canonical c scalar said = absurd (cc)

pub steady_more : (canonical : Canonical) (answers : List Bool) (b : Bool) (code : ℕ) → length answers ≡ code → AreSteady canonical answers
    → (IsScalar code → b ≡ true → IsSteady canonical code) → AreSteady canonical (answers ++ b ∷ [])
steady_more canonical answers b code size all here c scalar said =
    ⊎_elim (λ before. all c scalar before)
    (λ last.
    let at : c ≡ code = last.0 ∙ size in
    subst (λ (k : ℕ). IsSteady canonical k) (sym at) (here (subst IsScalar at scalar) last.1))
    (said_more answers b c said)
