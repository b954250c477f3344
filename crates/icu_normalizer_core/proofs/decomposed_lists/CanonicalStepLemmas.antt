-- The steps of an iterator of decomposed text.
use Rattle.std.proofs.Common.{◌≡◌, ℕ, ◌<◌, true, false, List, [], ◌∷◌, ◌++◌, flat_map, Option, Some, None, refl, sym, ap, subst, ◌∙◌}
use Rattle.icu_normalizer_core.specs.Canonical.{Canonical, marks_in_order, decomposed}
use Rattle.icu_normalizer_core.specs.declared.decomposition.characters.Decomposition.{Decomposition}
use Rattle.icu_normalizer_core.specs.Decompositions.{canonical_by_run, DecomposesTo}
use Rattle.icu_normalizer_core.specs.Iter.{Spells, SourceSpells, KeepsLeft}
use Rattle.icu_normalizer_core.specs.Run.{reordered, held, KeepsOutput}
use Rattle.icu_normalizer_core.proofs.decomposed_lists.DecomposedLemmas.{order_before}
use Rattle.icu_normalizer_core.proofs.decomposed_lists.IterLemmas.{spells_source, source_done, source_stopped, source_end, source_next, source_same}
use Rattle.icu_normalizer_core.proofs.decomposed_lists.RunLemmas.{order_nothing, reordered_empty}

-- a starter that stands for itself comes first in the decomposed list
pub decomposed_itself : (canonical : Canonical) (c : ℕ) (cs : List ℕ) → canonical.full c ≡ c ∷ [] → canonical.class c ≡ 0 → decomposed canonical (c ∷ cs) ≡ c ∷ decomposed canonical cs
unfolding decomposed
decomposed_itself canonical c cs full starter =
    ap (λ l. marks_in_order canonical.class (l ++ flat_map canonical.full cs)) full
    ∙ order_before canonical.class c [] (flat_map canonical.full cs) starter
    ∙ ap (λ l. l ++ c ∷ marks_in_order canonical.class (flat_map canonical.full cs)) (order_nothing canonical.class)

module _ {I : Type 0} (steps : I → Option ℕ → I → Type 0) where
  decomposes_left : (s : Decomposition I) (cs : List ℕ) → held s.run ≡ 0 → SourceSpells steps s.done s.chars cs → DecomposesTo steps s (decomposed (canonical_by_run s) cs)
  unfolding decomposed
  decomposes_left s cs empty h = record { unread = cs; source = h; text = sym (reordered_empty s.run _ empty) }

  pub decomposes_start : (s : Decomposition I) (cs : List ℕ) → s.done ≡ false → held s.run ≡ 0 → Spells steps s.chars cs → DecomposesTo steps s (decomposed (canonical_by_run s) cs)
  decomposes_start s cs e empty h = decomposes_left s cs empty (spells_source steps s.done s.chars cs e h)

  -- the same, by data that the run's are
  pub decomposes_new : (s : Decomposition I) (canonical : Canonical) (cs : List ℕ) → s.done ≡ false → held s.run ≡ 0 → canonical_by_run s ≡ canonical → Spells steps s.chars cs → DecomposesTo steps s (decomposed canonical cs)
  decomposes_new s canonical cs e empty same h = subst (λ (k : Canonical). DecomposesTo steps s (decomposed k cs)) same (decomposes_start s cs e empty h)

  pub decomposes_stop : (s : Decomposition I) → s.done ≡ true → held s.run ≡ 0 → DecomposesTo steps s []
  decomposes_stop s e empty =
      record {
        unread = [];
        source = source_stopped steps s.done s.chars e;
        text = sym (reordered_empty s.run [] empty ∙ order_nothing (canonical_by_run s).class);
      }

  pub decomposes_done : (s : Decomposition I) (cs : List ℕ) → s.done ≡ true → held s.run ≡ 0 → DecomposesTo steps s cs → cs ≡ []
  decomposes_done s cs e empty h =
      let none = source_done steps s.done s.chars h.unread e h.source in
      h.text ∙ ap (λ l. reordered s.run (flat_map (canonical_by_run s).full l)) none ∙ reordered_empty s.run [] empty ∙ order_nothing (canonical_by_run s).class

  -- only the run changed
  pub keeps_popped : (old new : Decomposition I) (written : List ℕ) → canonical_by_run new ≡ canonical_by_run old → new.done ≡ old.done → new.chars ≡ old.chars → KeepsOutput old.run [] written new.run → KeepsLeft (DecomposesTo steps) old written new
  keeps_popped old new written same done chars h =
      record {
        at = λ cs left. (
          reordered new.run (flat_map (canonical_by_run old).full left.unread),
          left.text ∙ h.at _,
          record {
            unread = left.unread;
            source = source_same steps old.done new.done old.chars new.chars left.unread done chars left.source;
            text = ap (λ (k : Canonical). reordered new.run (flat_map k.full left.unread)) (sym same);
          },
        );
      }

  pub keeps_ended : (old new : Decomposition I) (u : I) → old.done ≡ false → steps old.chars None u → new.done ≡ true → reordered new.run [] ≡ reordered old.run [] → KeepsLeft (DecomposesTo steps) old [] new
  keeps_ended old new u before step after h =
      record {
        at = λ cs left.
            let none = source_end steps old.done old.chars u left.unread before step left.source in (
              cs,
              refl,
              record {
                unread = [];
                source = source_stopped steps new.done new.chars after;
                text = left.text ∙ ap (λ l. reordered old.run (flat_map (canonical_by_run old).full l)) none ∙ sym h;
              },
            );
      }

  pub keeps_read : (old new : Decomposition I) (x : ℕ) → old.done ≡ false → steps old.chars (Some x) new.chars → new.done ≡ false → canonical_by_run new ≡ canonical_by_run old → KeepsOutput old.run ((canonical_by_run old).full x) [] new.run → KeepsLeft (DecomposesTo steps) old [] new
  keeps_read old new x before step after same h =
      record {
        at = λ cs left.
            let next = source_next steps old.done new.done old.chars new.chars x left.unread before step after left.source in (
              cs,
              refl,
              record {
                unread = next.0;
                source = next.2;
                text =
                    left.text ∙ ap (λ l. reordered old.run (flat_map (canonical_by_run old).full l)) next.1 ∙ h.at _
                    ∙ ap (λ (k : Canonical). reordered new.run (flat_map k.full next.0)) (sym same);
              },
            );
      }

  pub keeps_passed : (old new : Decomposition I) (x : ℕ) → old.done ≡ false → steps old.chars (Some x) new.chars → new.done ≡ false → canonical_by_run new ≡ canonical_by_run old → held old.run ≡ 0 → held new.run ≡ 0 → x < 0xa0 → KeepsLeft (DecomposesTo steps) old (x ∷ []) new
  unfolding decomposed
  keeps_passed old new x before step after same empty still low =
      record {
        at = λ cs left.
            let next = source_next steps old.done new.done old.chars new.chars x left.unread before step after left.source in (
              decomposed (canonical_by_run new) next.0,
              left.text ∙ reordered_empty old.run _ empty ∙ ap (decomposed (canonical_by_run old)) next.1
                  ∙ decomposed_itself (canonical_by_run old) x next.0 (old.run.low x low) (old.run.starters x low)
                  ∙ ap (λ (k : Canonical). x ∷ decomposed k next.0) (sym same),
              decomposes_left new next.0 still next.2,
            );
      }
