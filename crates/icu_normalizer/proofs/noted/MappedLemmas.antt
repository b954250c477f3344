-- The steps of an iterator of mapped characters.
use Rattle.std.proofs.Common.{◌≡◌, ℕ, true, false, List, [], ◌∷◌, ◌++◌, Option, Some, None, option_to_list, refl, sym, ap, subst, ◌∙◌}
use Rattle.std.specs.Iterator.{Count}
use Rattle.icu_normalizer_core.specs.Iter.{Spells, KeepsLeft}
use Rattle.icu_normalizer_core.proofs.decomposed_lists.IterLemmas.{spells_source, source_done, source_stopped, source_end, source_next, source_same}
use Rattle.icu_normalizer.specs.declared.uts46.mapped_characters.MappedChars.{MappedChars}
use Rattle.icu_normalizer.specs.Uts46.{becomes, mapper_of}
use Rattle.icu_normalizer.specs.Uts46Iter.{mapped_by, MapsTo, MappingSteps}

module _ {I : Type 0} (steps : I → Option ℕ → I → Type 0) where
  pub maps_start : (s : MappedChars I) (cs : List ℕ) → s.done ≡ false → s.list ≡ [] → Spells steps s.chars cs → MapsTo steps s (mapped_by s cs)
  maps_start s cs e empty h =
      record {
        unread = cs;
        source = spells_source steps s.done s.chars cs e h;
        text = ap (λ (l : List ℕ). l ++ mapped_by s cs) (sym empty);
      }

  pub mapped_ended : (old new : MappedChars I) (u : I) → old.done ≡ false → steps old.chars None u → new.done ≡ true → new.list ≡ old.list → KeepsLeft (MapsTo steps) old [] new
  mapped_ended old new u before step after list =
      record {
        at = λ cs left.
            let none = source_end steps old.done old.chars u left.unread before step left.source in (
              cs,
              refl,
              record {
                unread = [];
                source = source_stopped steps new.done new.chars after;
                text = left.text ∙ ap (λ l. old.list ++ mapped_by old l) none ∙ ap (λ (l : List ℕ). l ++ []) (sym list);
              },
            );
      }

  pub mapped_read : (old new : MappedChars I) (x : ℕ) → old.done ≡ false → old.list ≡ [] → steps old.chars (Some x) new.chars → new.done ≡ false
      → new.list ≡ becomes (option_to_list old.ignored) x (mapper_of old.table.now x) → ((text : List ℕ) → mapped_by new text ≡ mapped_by old text)
      → KeepsLeft (MapsTo steps) old [] new
  mapped_read old new x before empty step after list same =
      record {
        at = λ cs left.
            let next = source_next steps old.done new.done old.chars new.chars x left.unread before step after left.source in (
              cs,
              refl,
              record {
                unread = next.0;
                source = next.2;
                text =
                    left.text ∙ ap (λ (l : List ℕ). l ++ mapped_by old left.unread) empty ∙ ap (λ (l : List ℕ). mapped_by old l) next.1
                    ∙ ap (λ (l : List ℕ). l ++ mapped_by old next.0) (sym list) ∙ ap (λ (l : List ℕ). new.list ++ l) (sym (same next.0));
              },
            );
      }

  -- only the list changed
  module _ (old new : MappedChars I) (done : new.done ≡ old.done) (chars : new.chars ≡ old.chars) (same : (text : List ℕ) → mapped_by new text ≡ mapped_by old text) where
    pub mapped_popped : (x : ℕ) → old.list ≡ x ∷ new.list → KeepsLeft (MapsTo steps) old (x ∷ []) new
    mapped_popped x h =
        record {
          at = λ cs left. (
            new.list ++ mapped_by new left.unread,
            left.text ∙ ap (λ (l : List ℕ). l ++ mapped_by old left.unread) h ∙ ap (λ (l : List ℕ). x ∷ (new.list ++ l)) (sym (same left.unread)),
            record { unread = left.unread; source = source_same steps old.done new.done old.chars new.chars left.unread done chars left.source; text = refl },
          );
        }

    pub mapped_kept : old.list ≡ new.list → KeepsLeft (MapsTo steps) old [] new
    mapped_kept h =
        record {
          at = λ cs left. (
            new.list ++ mapped_by new left.unread,
            left.text ∙ ap (λ (l : List ℕ). l ++ mapped_by old left.unread) h ∙ ap (λ (l : List ℕ). new.list ++ l) (sym (same left.unread)),
            record { unread = left.unread; source = source_same steps old.done new.done old.chars new.chars left.unread done chars left.source; text = refl },
          );
        }

  pub mapped_done : (s : MappedChars I) (cs : List ℕ) → s.done ≡ true → s.list ≡ [] → MapsTo steps s cs → cs ≡ []
  mapped_done s cs e empty h =
      let none = source_done steps s.done s.chars h.unread e h.source in
      h.text ∙ ap (λ l. s.list ++ mapped_by s l) none ∙ ap (λ (l : List ℕ). l ++ []) empty

  -- what is still to come is what it gives
  pub maps_spells : (can : I → Type 0) (left : I → Count) (s : MappedChars I) (out : List ℕ) → MapsTo steps s out → Spells (MappingSteps can steps left) s out
  maps_spells can left s [] h = λ x t step. let first = step.at [] h in let none : [] ≡ x ∷ first.0 = first.1 in cc
  maps_spells can left s (c ∷ cs) h = (
    λ t step. let end = step.at (c ∷ cs) h in let none : c ∷ cs ≡ [] = end.0 in cc,
    λ x t step.
        let first = step.at (c ∷ cs) h in
        let parts : c ∷ cs ≡ x ∷ first.0 = first.1 in
        let head : x ≡ c = cc in
        let tail : first.0 ≡ cs = cc in
        (head, maps_spells can left t cs (subst (MapsTo steps t) tail first.2)),
  )
