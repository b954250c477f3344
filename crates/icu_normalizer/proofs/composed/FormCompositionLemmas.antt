-- The steps of an iterator of composed text.
use Rattle.std.proofs.Common.{◌≡◌, ℕ, List, [], ◌∷◌, ◌++◌, Option, refl, sym, ap, subst, ◌∙◌}
use Rattle.icu_normalizer_core.specs.Canonical.{Canonical, recomposed, decomposed, composed}
use Rattle.icu_normalizer_core.specs.Decompositions.{DecomposesTo}
use Rattle.icu_normalizer_core.specs.Iter.{IsFirstOf, KeepsLeft}
use Rattle.icu_normalizer.specs.declared.composing.characters.Composition.{Composition}
use Rattle.icu_normalizer.specs.Composer.{data_of, coming, IsIdle, KeepsComposed}
use Rattle.icu_normalizer.specs.Compositions.{ComposesTo}
use Rattle.icu_normalizer.proofs.composed.ComposerLemmas.{coming_idle}
use Rattle.icu_normalizer.proofs.composed.ComposingLemmas.{recomposed_nothing}

module _ {I : Type 0} (steps : I → Option ℕ → I → Type 0) where
  composes_idle : (s : Composition I) (ds : List ℕ) → IsIdle s.composer → DecomposesTo steps s.chars ds → ComposesTo steps s (recomposed (data_of s.composer) ds)
  composes_idle s ds idle h = record { unread = ds; source = h; text = sym (coming_idle s.composer ds idle) }

  pub composes_new : (s : Composition I) (canonical : Canonical) (cs : List ℕ) → IsIdle s.composer → data_of s.composer ≡ canonical → DecomposesTo steps s.chars (decomposed canonical cs) → ComposesTo steps s (composed canonical cs)
  unfolding composed
  composes_new s canonical cs idle same h =
      subst (λ (k : Canonical). ComposesTo steps s (recomposed k (decomposed canonical cs))) same (composes_idle s (decomposed canonical cs) idle h)

  pub composes_stop : (s : Composition I) → IsIdle s.composer → DecomposesTo steps s.chars [] → ComposesTo steps s []
  composes_stop s idle h = subst (ComposesTo steps s) (recomposed_nothing (data_of s.composer)) (composes_idle s [] idle h)

  -- only the composer changed
  pub keeps_popped : (old new : Composition I) (written : List ℕ) → new.chars ≡ old.chars → KeepsComposed old.composer [] written new.composer → KeepsLeft (ComposesTo steps) old written new
  keeps_popped old new written chars h =
      record {
        at = λ cs left. (
          coming new.composer left.unread,
          left.text ∙ h.at left.unread,
          record { unread = left.unread; source = subst (λ it. DecomposesTo steps it left.unread) (sym chars) left.source; text = refl },
        );
      }

  pub keeps_pushed : (old new : Composition I) (x : ℕ) (written : List ℕ) → ((ds : List ℕ) → DecomposesTo steps old.chars ds → IsFirstOf (DecomposesTo steps) ds new.chars x) → KeepsComposed old.composer (x ∷ []) written new.composer → KeepsLeft (ComposesTo steps) old written new
  keeps_pushed old new x written step h =
      record {
        at = λ cs left.
            let next = step left.unread left.source in (
              coming new.composer next.0,
              left.text ∙ ap (coming old.composer) next.1 ∙ h.at next.0,
              record { unread = next.0; source = next.2; text = refl },
            );
      }

  pub finished : (old new : Composition I) (written : List ℕ) → ((ds : List ℕ) → DecomposesTo steps old.chars ds → (ds ≡ []) × DecomposesTo steps new.chars []) → coming old.composer [] ≡ written ++ coming new.composer [] → (cs : List ℕ) → ComposesTo steps old cs → (cs ≡ written ++ coming new.composer []) × ComposesTo steps new (coming new.composer [])
  finished old new written step h cs left =
      let end = step left.unread left.source in
      (left.text ∙ ap (coming old.composer) end.0 ∙ h, record { unread = []; source = end.1; text = refl })
