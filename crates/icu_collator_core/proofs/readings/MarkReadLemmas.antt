-- The reading of marks of a run, one after another, by what is left of the run.
use Rattle.std.proofs.Common.{◌≡◌, ℕ, suc, ◌+◌, ◌-◌, ◌≤◌, ◌==◌, ◌&&◌, ◌||◌, Bool, true, false, List, [], ◌∷◌, ◌++◌, length, take, drop, Some, None, refl, sym, ◌∙◌, ap, subst, arith, append_assoc}
use Rattle.std.specs.Option.{is_some, unwrap_or}
use Rattle.std.proofs.lemmas.List.{drop-drop, take-append-drop}
use Rattle.icu_normalizer_core.specs.Canonical.{Canonical}
use Rattle.icu_collator_types.specs.declared.elements.Element.{Element}
use Rattle.icu_collator_core.specs.declared.reading.mark_runs.ClassMarks.{ClassMarks}
use Rattle.icu_collator_core.specs.Defaults.{default_elements, primary_element, special_primary}
use Rattle.icu_collator_core.specs.ElementLists.{AddsElements, unpacked}
use Rattle.icu_collator_core.specs.Elements.{Joining, Placed, Reading, characters_of, elements_within, is_before_accent, placed, prefix_match, reading, text_reading}
use Rattle.icu_collator_core.specs.MarkRuns.{HasPushed, HasReadFirst, marks_left}
use Rattle.icu_collator_core.specs.ReadSteps.{IsRead, elements_from}
use Rattle.icu_collator_core.specs.Weights.{Weights}
use Rattle.icu_collator_core.proofs.lookups.JoinedTextLemmas.{part_characters}
use Rattle.icu_collator_core.proofs.lookups.MarkTextLemmas.{mark_match}
use Rattle.icu_collator_core.proofs.lookups.MarksLeftLemmas.{no_characters}
use Rattle.icu_collator_core.proofs.meaning.AcceptedMarkLemmas.{KnowMark}
use Rattle.icu_collator_core.proofs.readings.CaseLemmas.{reading_dropped, reading_otherwise, reading_special}
use Rattle.icu_collator_core.proofs.readings.CountLemmas.{any_count, reading_shrinks}

pub accent_first : (here behind : List Placed) (c : ℕ) (cs : List ℕ) → characters_of here ≡ c ∷ cs
    → ((c == 0x300) || (c == 0x301) || (c == 0x303)) ≡ is_before_accent (here ++ behind)
unfolding is_before_accent
accent_first [] behind c cs e = absurd (cc)
accent_first (p ∷ here) behind c cs e = let same : c ≡ p.character = cc in ap (λ d. (d == 0x300) || (d == 0x301) || (d == 0x303)) same

pub accent_behind : (here behind : List Placed) → characters_of here ≡ [] → is_before_accent behind ≡ is_before_accent (here ++ behind)
accent_behind here behind e = ap (λ l. is_before_accent (l ++ behind)) (sym (no_characters here e))

module _ (canonical : Canonical) (weights : Weights) (numeric : Bool) (p : Placed) (here behind : List Placed) (classes : List ClassMarks) (ready after : List ℕ) where
  abbrev first : Reading
  first = reading canonical weights numeric p (here ++ behind)

  read_as : (es : List Element) (between : List Placed) → first ≡ record { elements = es; left = between ++ behind } → characters_of between ≡ marks_left classes
      → AddsElements ready es after → HasReadFirst first behind classes ready after
  read_as es between e is added =
      record {
        between = between;
        elements = subst (λ (r : Reading). AddsElements ready r.elements after) (sym e) added;
        characters = is;
        left = ap (λ (r : Reading). r.left) e;
      }

  pub special_first : (s : ℕ) → special_primary p.character ≡ Some s → characters_of here ≡ marks_left classes → AddsElements ready (primary_element s ∷ []) after
      → HasReadFirst first behind classes ready after
  special_first s e is added = read_as (primary_element s ∷ []) here (reading_special canonical weights numeric p (here ++ behind) s e) is added

  module _ (ordinary : special_primary p.character ≡ None) (uncounted : (numeric && is_some (weights.digit p.character)) ≡ false) where
    pub dropped_first : (weights.dot_above && (p.character == 0x307) && is_before_accent (here ++ behind)) ≡ true → characters_of here ≡ marks_left classes
        → AddsElements ready [] after → HasReadFirst first behind classes ready after
    dropped_first d is added = read_as [] here (reading_dropped canonical weights numeric p (here ++ behind) ordinary uncounted d) is added

    module _ (kept : (weights.dot_above && (p.character == 0x307) && is_before_accent (here ++ behind)) ≡ false) (unprefixed : prefix_match weights p ≡ None)
        (known : KnowMark canonical weights p.character) (pushed : HasPushed canonical weights p.character here behind classes ready after) where
      abbrev elements : List Element
      elements = unwrap_or (weights.recorded [] (p.character ∷ pushed.joined)) (default_elements weights p.character)

      text_is : first ≡ record { elements = elements; left = pushed.between ++ behind }
      unfolding text_reading
      text_is =
          reading_otherwise canonical weights numeric p (here ++ behind) ordinary uncounted kept
          ∙ ap (λ o. elim o as (λ _. Reading) [
            | Some es ↦ record { elements = es; left = here ++ behind }
            | None ↦ text_reading canonical weights p.character (p ∷ (here ++ behind))
          ]) unprefixed
          ∙ ap (λ (m : Joining). record { elements = unwrap_or (weights.recorded [] m.text) (default_elements weights p.character); left = m.left })
          (mark_match canonical weights p.character known p (here ++ behind) refl ∙ pushed.same)

      pub text_first : HasReadFirst first behind classes ready after
      text_first = read_as elements pushed.between text_is pushed.left pushed.elements

-- ---- The whole run

-- what is ready, and what is left of a run and of the list after it, are together what they were before
pub record HasRunTo (canonical : Canonical) (weights : Weights) (numeric : Bool) (list : List ℕ) (index end : ℕ) (before : List ℕ) (classes : List ClassMarks) (ready : List ℕ) : Type 0 where
  pub here : List Placed
  pub characters : characters_of here ≡ marks_left classes
  pub read :
      unpacked ready ++ elements_within (length (here ++ drop end (placed list))) canonical weights numeric (here ++ drop end (placed list))
      ≡ unpacked before ++ elements_from canonical weights numeric list index

module _ (canonical : Canonical) (weights : Weights) (numeric : Bool) (list : List ℕ) (index end : ℕ) (before : List ℕ) where
  abbrev behind : List Placed
  behind = drop end (placed list)

  abbrev all : List Placed → List Element
  all ps = elements_within (length ps) canonical weights numeric ps

  pub run_begins : (classes : List ClassMarks) → index ≤ end → marks_left classes ≡ drop index (take end list)
      → HasRunTo canonical weights numeric list index end before classes before
  run_begins classes order is =
      let here = take (end - index) (drop index (placed list)) in
      let sum : index + (end - index) ≡ end = omega (arith, order) in
      let whole : here ++ behind ≡ drop index (placed list) =
      ap (λ l. here ++ l) (sym (drop-drop (end - index) index (placed list) ∙ ap (λ n. drop n (placed list)) sum)) ∙ take-append-drop (end - index) (drop index (placed list)) in
      record {
        here = here;
        characters = part_characters index end list order ∙ sym is;
        read = ap (λ ps. unpacked before ++ all ps) whole;
      }

  first_then : (p : Placed) (ps : List Placed)
      → elements_within (suc (length ps)) canonical weights numeric (p ∷ ps)
      ≡ (reading canonical weights numeric p ps).elements ++ elements_within (length ps) canonical weights numeric (reading canonical weights numeric p ps).left
  unfolding elements_within
  first_then p ps = refl

  -- the first of what is left is read
  pub run_on : (classes mid new : List ClassMarks) (c : ℕ) (ready after : List ℕ) → marks_left classes ≡ c ∷ marks_left mid
      → HasRunTo canonical weights numeric list index end before classes ready
      → ((p : Placed) (here : List Placed) → p.character ≡ c → characters_of here ≡ marks_left mid
      → HasReadFirst (reading canonical weights numeric p (here ++ behind)) behind new ready after)
      → HasRunTo canonical weights numeric list index end before new after
  run_on classes mid new c ready after first h read = at h.here (h.characters ∙ first) h.read
    where
      at : (here : List Placed) → characters_of here ≡ c ∷ marks_left mid
          → unpacked ready ++ all (here ++ behind) ≡ unpacked before ++ elements_from canonical weights numeric list index
          → HasRunTo canonical weights numeric list index end before new after
      at [] e was = absurd (cc)
      at (p ∷ here) e was =
          let step = read p here (cc) (cc) in
          let ps = here ++ behind in
          let first = reading canonical weights numeric p ps in
          let left = step.between ++ behind in
          let fewer : length first.left ≤ length ps = reading_shrinks canonical weights numeric p ps in
          let same : length first.left ≡ length left = ap length step.left in
          let rest : elements_within (length ps) canonical weights numeric first.left ≡ all left =
          ap (λ l. elements_within (length ps) canonical weights numeric l) step.left
          ∙ any_count canonical weights numeric (length ps) (length left) left (omega (arith, fewer, same)) (omega arith) in
          record {
            here = step.between;
            characters = step.characters;
            read =
                ap (λ (es : List Element). es ++ all left) step.elements
                ∙ append_assoc (unpacked ready) first.elements (all left)
                ∙ ap (λ (es : List Element). unpacked ready ++ es) (ap (λ (es : List Element). first.elements ++ es) (sym rest) ∙ sym (first_then p ps))
                ∙ was;
          }

  -- nothing is left of the run
  pub run_ends : (classes : List ClassMarks) (ready : List ℕ) → marks_left classes ≡ [] → HasRunTo canonical weights numeric list index end before classes ready
      → IsRead canonical weights numeric list index (unpacked before) list end (unpacked ready)
  run_ends classes ready none h =
      ap (λ l. unpacked ready ++ all (l ++ behind)) (sym (no_characters h.here (h.characters ∙ none))) ∙ h.read
