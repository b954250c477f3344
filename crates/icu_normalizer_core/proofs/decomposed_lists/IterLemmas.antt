-- Following an iterator by the words of specs/Iter.antt.
use Rattle.std.proofs.Common.{◌≡◌, ℕ, Bool, true, false, List, [], ◌∷◌, Option, Some, None, Result, Ok, Err, refl, sym, ap, subst, ◌∙◌}
use Rattle.std.proofs.lemmas.Option.{none-some}
use Rattle.icu_normalizer_core.specs.Iter.{Spells, SourceSpells, IsFirstOf, KeepsLeft, EndsOnce}

module _ {I : Type 0} (steps : I → Option ℕ → I → Type 0) where
  pub Spells-next : (s t : I) (x : ℕ) (cs : List ℕ) → steps s (Some x) t → Spells steps s cs → IsFirstOf (Spells steps) cs t x
  Spells-next s t x [] step h = absurd (h x t step)
  Spells-next s t x (c ∷ cs) step h = let parts = h.1 x t step in (cs, ap (λ y. y ∷ cs) (sym parts.0), parts.1)

  pub Spells-end : (s t : I) (cs : List ℕ) → steps s None t → Spells steps s cs → cs ≡ []
  Spells-end s t [] step h = refl
  Spells-end s t (c ∷ cs) step h = absurd (h.0 t step)

  -- ---- a source that is not called again once it is done

  module _ (done : Bool) (it : I) (cs : List ℕ) where
    pub source_spells : done ≡ false → SourceSpells steps done it cs → Spells steps it cs
    source_spells e h = subst (λ b. SourceSpells steps b it cs) e h

    pub spells_source : done ≡ false → Spells steps it cs → SourceSpells steps done it cs
    spells_source e h = subst (λ b. SourceSpells steps b it cs) (sym e) h

    pub source_done : done ≡ true → SourceSpells steps done it cs → cs ≡ []
    source_done e h = subst (λ b. SourceSpells steps b it cs) e h

  pub source_stopped : (done : Bool) (it : I) → done ≡ true → SourceSpells steps done it []
  source_stopped done it e = subst (λ b. SourceSpells steps b it []) (sym e) refl

  pub source_end : (done : Bool) (s t : I) (cs : List ℕ) → done ≡ false → steps s None t → SourceSpells steps done s cs → cs ≡ []
  source_end done s t cs e step h = Spells-end s t cs step (source_spells done s cs e h)

  pub source_next : (was is : Bool) (s t : I) (x : ℕ) (cs : List ℕ) → was ≡ false → steps s (Some x) t → is ≡ false → SourceSpells steps was s cs → IsFirstOf (SourceSpells steps is) cs t x
  source_next was is s t x cs before step after h =
      let next = Spells-next s t x cs step (source_spells was s cs before h) in (next.0, next.1, spells_source is t next.0 after next.2)

  pub source_same : (was is : Bool) (s t : I) (cs : List ℕ) → is ≡ was → t ≡ s → SourceSpells steps was s cs → SourceSpells steps is t cs
  source_same was is s t cs done it h = subst (λ i. SourceSpells steps is i cs) (sym it) (subst (λ b. SourceSpells steps b s cs) (sym done) h)

-- what came out after what came out before
pub keeps_then : {S A : Type 0} (HasLeft : S → List A → Type 0) (a b c : S) (written : List A) → KeepsLeft HasLeft a [] b → KeepsLeft HasLeft b written c → KeepsLeft HasLeft a written c
keeps_then HasLeft a b c written first second =
    record { at = λ cs left. let middle = first.at cs left in let last = second.at middle.0 middle.2 in (last.0, middle.1 ∙ last.1, last.2) }

-- ---- an iterator ends after an error

pub not_both : (b : Bool) → b ≡ false → b ≡ true → ⊥
not_both b off on = let e : false ≡ true = sym off ∙ on in cc

module _ {S A E : Type 0} (IsFinished : S → Type 0) (s t : S) where
  pub ends_item : (x : A) → (IsFinished s → ⊥) → EndsOnce {E = E} IsFinished s (Some (Ok x)) t
  ends_item x running = record { finished = tt; last = tt; ended = λ f. absurd (running f); stays = λ f. absurd (running f) }

  pub ends_error : (e : E) → (IsFinished s → ⊥) → IsFinished t → EndsOnce {A = A} IsFinished s (Some (Err e)) t
  ends_error e running stopped = record { finished = stopped; last = tt; ended = λ f. absurd (running f); stays = λ f. stopped }

  pub ends_last : IsFinished t → EndsOnce {A = A} {E = E} IsFinished s None t
  ends_last stopped = record { finished = tt; last = stopped; ended = λ f. refl; stays = λ f. stopped }

  -- an iterator that gave something wasn't finished
  pub ended_not : (r : Result A E) → EndsOnce IsFinished s (Some r) t → IsFinished s → ⊥
  ended_not r step f = none-some r (sym (step.ended f))
