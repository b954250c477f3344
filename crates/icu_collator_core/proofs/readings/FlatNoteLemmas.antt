-- What a note of a character says of its elements.
use Rattle.std.proofs.Common.{◌≡◌, ◌↔◌, ◌≤◌, ◌<◌, ℕ, Bool, true, false, IsTrue, not, length, ◌==◌, ◌&&◌, ◌||◌, List, [], ◌∷◌, ⊎_elim, inl, inr, Option, None, arith, refl, ap, ◌∙◌}
use Rattle.std.specs.List.{AllByRecursion}
use Rattle.std.specs.Prelude.{slice_index}
use Rattle.std.specs.Option.{is_some}
use Rattle.std.proofs.lemmas.Bool.{and_right, cases_lt, false≢true, or_parts}
use lib.Utf8.{scalar, scalars}
use Rattle.icu_collator_core.specs.Acceptance.{CollationSource}
use Rattle.icu_collator_core.specs.Boundaries.{is_accent}
use Rattle.icu_collator_core.specs.Defaults.{special_primary}
use Rattle.icu_collator_core.specs.ElementLists.{unpacked}
use Rattle.icu_collator_core.specs.Elements.{elements_of_list}
use Rattle.icu_collator_core.specs.FlatNotes.{AreReadFlat, IsBoundaryApart, IsBoundaryNote, IsFlat, IsFlatNote, IsFlatUpTo, IsReadFlat, IsSteady, IsUncounted, MayBegin, MayFollow, StandInOrder, note_by}
use Rattle.icu_collator_core.specs.declared.notes.flat_note.FlatNote.TheVariants.{One, Other, Two}
use Rattle.icu_collator_core.specs.PlainCharacters.{IsOwnBeginning}
use Rattle.icu_collator_core.specs.PlainWords.{IsReadAlone, IsReadUncounted}
use Rattle.icu_collator_core.specs.ReadSources.{IsAloneAnywhere, canonical_by, weights_by}
use Rattle.icu_collator_core.specs.TableMeaning.{weights_of}
use Rattle.icu_collator_core.specs.TableSettings.{has_bit}
use Rattle.icu_collator_core.specs.UnsafeCharacters.{IsUnsafeItself}
use Rattle.icu_collator_core.proofs.readings.AloneReadLemmas.{not_some}
use Rattle.icu_collator_core.proofs.readings.BoundaryReadLemmas.{read_bounded}
use Rattle.icu_collator_core.proofs.readings.FlatReadLemmas.{flat_before, flat_scalars}
use Rattle.icu_collator_core.proofs.readings.SplitAtBoundaryLemmas.{starter_boundary}

module _ (source : CollationSource) (c bits : ℕ) (character : scalar c ≡ true)
    (kept : (is_some (special_primary c) || (has_bit 6 source.tables.metadata.bits && (c == 0x307))) ≡ false) where
  -- a character that is read alone, and is no special one nor a dot that may be dropped
  pub alone_flat : ((numeric : Option ℕ) → IsReadAlone (weights_by numeric source) c bits) → (numeric : Option ℕ) → IsReadFlat source numeric c bits
  alone_flat alone numeric =
      let parts = or_parts (is_some (special_primary c)) (has_bit 6 source.tables.metadata.bits && (c == 0x307)) kept in
      record {
        character = character;
        ordinary = not_some (special_primary c) parts.0;
        uncounted = and_right (is_some numeric) (is_some ((weights_by numeric source).digit c)) (ap (λ (o : Option ℕ). is_some o) (alone numeric).digit);
        undropped = parts.1;
        alone = (alone numeric).uncounted;
      }

  -- the same of a digit, where digits don't count
  pub digit_flat : IsReadUncounted (weights_by None source) c bits → IsReadFlat source None c bits
  digit_flat alone =
      let parts = or_parts (is_some (special_primary c)) (has_bit 6 source.tables.metadata.bits && (c == 0x307)) kept in
      record {
        character = character;
        ordinary = not_some (special_primary c) parts.0;
        uncounted = refl;
        undropped = parts.1;
        alone = alone;
      }

-- ---- what stands after a class

module _ (source : CollationSource) (c : ℕ) where
  -- a character that isn't unsafe itself
  pub boundary_apart : (IsUnsafeItself (canonical_by source) (weights_of (canonical_by source) source.tables) c → ⊥) → is_accent c ≡ false
      → (numeric : Option ℕ) → IsUncounted source numeric c → IsBoundaryApart source numeric c
  boundary_apart safe plain numeric uncounted =
      let canonical = canonical_by source in
      let weights = weights_by numeric source in (
        starter_boundary canonical weights c
            (⊎_elim
            (λ (more : 0 < canonical.class c). absurd (safe (inl (λ zero. omega (arith, more, zero)))))
            (λ (less : canonical.class c ≤ 0). omega (arith, less))
            (cases_lt 0 (canonical.class c)))
            (λ prefix first later es r w. safe (inr (inl (record { prefix = prefix; first = first; later = later; elements = es; recorded = r; within = w }))))
            (λ p ps later es r. safe (inr (inr (record { nearest = p; further = ps; later = later; elements = es; recorded = r })))),
        record { number = uncounted; accent = and_right weights.dot_above (is_accent c) plain },
      )

  -- one of which a test says that it isn't
  pub boundary_told : (told : Bool) → (IsTrue told ↔ IsUnsafeItself (canonical_by source) (weights_of (canonical_by source) source.tables) c) → not told ≡ true
      → is_accent c ≡ false → (numeric : Option ℕ) → IsUncounted source numeric c → IsBoundaryApart source numeric c
  boundary_told told by safe = boundary_apart (λ own. never_both told safe (by.1 own))
    where
      never_both : (b : Bool) → not b ≡ true → b ≡ true → ⊥
      never_both true e f = false≢true e
      never_both false e f = false≢true f

  -- after which classes a character of a class may stand: its own, any, or, where it is a boundary, also none
  pub mark_begins : (lead : ℕ) → (canonical_by source).class c ≡ lead → lead ≤ 255 → (numeric : Option ℕ) (before : ℕ) → before ≤ lead → MayBegin source numeric before c
  mark_begins lead is small numeric before least = (inr (omega (arith, is, least)), inl (omega (arith, small, least)))

  pub starter_begins : (canonical_by source).class c ≡ 0 → (numeric : Option ℕ) (before : ℕ) → before ≤ 255 → MayBegin source numeric before c
  starter_begins starter numeric before least = (inl starter, inl least)

  pub boundary_begins : ((numeric : Option ℕ) → IsUncounted source numeric c → IsBoundaryApart source numeric c) → (numeric : Option ℕ) (before : ℕ)
      → IsUncounted source numeric c → MayBegin source numeric before c
  boundary_begins apart numeric before uncounted = let boundary = apart numeric uncounted in (inl boundary.0.starter, inr boundary)

-- ---- notes

module _ (source : CollationSource) (c : ℕ) where
  abbrev class : ℕ → ℕ
  class = (canonical_by source).class

  abbrev full : ℕ → List ℕ
  full = (canonical_by source).full

  module _ (numeric : Option ℕ) (first lead : ℕ) (begins : (before : ℕ) → before ≤ lead → IsUncounted source numeric first → MayBegin source numeric before first) where
    pub one_flat : (bits : ℕ) → full c ≡ first ∷ [] → IsReadFlat source numeric first bits → IsFlatUpTo source numeric c (bits ∷ []) lead (class first)
    one_flat bits is alone before least =
        let all : AreReadFlat source numeric (first ∷ []) (bits ∷ []) = (alone, tt) in
        let may = begins before least alone.uncounted in
        record {
          first = first;
          rest = [];
          full = is;
          characters = flat_scalars source numeric (first ∷ []) (bits ∷ []) all;
          follows = may.1;
          order = (may.0, tt);
          last = λ small. refl;
          alone = λ small. all;
          read = flat_before source numeric (first ∷ []) (bits ∷ []) (class first) all;
        }

    pub two_flat : (second bits other : ℕ) → full c ≡ first ∷ second ∷ [] → IsReadFlat source numeric first bits → IsReadFlat source numeric second other
        → MayFollow (class first) (class second) → IsFlatUpTo source numeric c (bits ∷ other ∷ []) lead (class second)
    two_flat second bits other is one two order before least =
        let all : AreReadFlat source numeric (first ∷ second ∷ []) (bits ∷ other ∷ []) = (one, (two, tt)) in
        let may = begins before least one.uncounted in
        record {
          first = first;
          rest = second ∷ [];
          full = is;
          characters = flat_scalars source numeric (first ∷ second ∷ []) (bits ∷ other ∷ []) all;
          follows = may.1;
          order = (may.0, (order, tt));
          last = λ small. refl;
          alone = λ small. all;
          read = flat_before source numeric (first ∷ second ∷ []) (bits ∷ other ∷ []) (class second) all;
        }

  -- a boundary that is read alone may stand after any character
  pub boundary_flat : (numeric : Option ℕ) (first bits : ℕ) → MayBegin source numeric 256 first → full c ≡ first ∷ [] → IsReadFlat source numeric first bits
      → (before : ℕ) → IsFlat source numeric c before (bits ∷ []) 0
  boundary_flat numeric first bits may is alone before =
      let all : AreReadFlat source numeric (first ∷ []) (bits ∷ []) = (alone, tt) in
      let boundary : IsBoundaryApart source numeric first =
      ⊎_elim (λ (small : 256 ≤ 255). absurd (omega (arith, small))) (λ (apart : IsBoundaryApart source numeric first). apart) may.1 in
      record {
        first = first;
        rest = [];
        full = is;
        characters = flat_scalars source numeric (first ∷ []) (bits ∷ []) all;
        follows = inr boundary;
        order = (inl boundary.0.starter, tt);
        last = λ small. boundary.0.starter;
        alone = λ small. all;
        read = flat_before source numeric (first ∷ []) (bits ∷ []) 0 all;
      }

  -- a plain character before which no dot above is dropped
  pub boundary_noted : (bits : ℕ) → scalar c ≡ true → is_accent c ≡ false
      → IsOwnBeginning (canonical_by source) (weights_of (canonical_by source) source.tables) c → IsAloneAnywhere source c bits → IsBoundaryNote source c bits
  boundary_noted bits character unaccented own alone =
      let dotted = has_bit 6 source.tables.metadata.bits in
      let kept : (is_some (special_primary c) || (dotted && (c == 0x307))) ≡ false =
      ap (λ (o : Option ℕ). is_some o || (dotted && (c == 0x307))) alone.ordinary ∙ and_right dotted (c == 0x307) alone.undotted in
      let apart = boundary_apart source c (λ itself. own.safe (inl itself)) unaccented in
      record {
        plain = record { alone = alone; beginning = own };
        unaccented = unaccented;
        flat = λ numeric before.
            let read = alone_flat source c bits character kept alone.alone numeric in
            boundary_flat numeric c bits (boundary_begins source c apart numeric 256 read.uncounted) own.own read before;
      }

  -- characters that begin with a boundary, by what they are by themselves
  pub bounded_flat : (first : ℕ) (rest items : List ℕ) → full c ≡ first ∷ rest → scalars (first ∷ rest) ≡ true
      → ((numeric : Option ℕ) → IsUncounted source numeric first → IsBoundaryApart source numeric first) → AllByRecursion (IsSteady source) (first ∷ rest)
      → ((class first ≡ 0) → StandInOrder class (class first) rest) → unpacked items ≡ elements_of_list (canonical_by source) (weights_by None source) false (first ∷ rest)
      → (numeric : Option ℕ) → IsFlatUpTo source numeric c items 256 256
  bounded_flat first rest items is ok apart steady order are numeric before least =
      let uncounted : IsUncounted source numeric first =
      and_right (is_some numeric) (is_some ((weights_by None source).digit first)) (ap (λ (o : Option ℕ). is_some o) steady.0.uncounted) in
      let boundary = apart numeric uncounted in
      record {
        first = first;
        rest = rest;
        full = is;
        characters = ok;
        follows = inr boundary;
        order = (inl boundary.0.starter, order boundary.0.starter);
        last = λ (small : 256 ≤ 255). absurd (omega (arith, small));
        alone = λ (small : 256 ≤ 255). absurd (omega (arith, small));
        read = read_bounded source numeric (first ∷ rest) items ok steady are;
      }

  pub noted_by : (items : List ℕ) → ((numeric : Option ℕ) → IsFlatUpTo source numeric c items 256 256) → IsFlatNote source c (note_by items)
  noted_by [] h = tt
  noted_by (bits ∷ []) h = h
  noted_by (first ∷ second ∷ []) h = h
  noted_by (first ∷ second ∷ third ∷ more) h = tt

-- ---- the note by so many elements

pub note_of_single : (items : List ℕ) (x : ℕ) → length items ≡ 1 → x ≡ slice_index items 0 → One x 256 256 ≡ note_by items
note_of_single [] x l e = absurd (omega (arith, l))
note_of_single (a ∷ []) x l e = ap (λ (y : ℕ). One y 256 256) e
note_of_single (a ∷ b ∷ more) x l e = absurd (omega (arith, l))

pub note_of_pair : (items : List ℕ) (x y : ℕ) → length items ≡ 2 → x ≡ slice_index items 0 → y ≡ slice_index items 1 → Two x y 256 256 ≡ note_by items
note_of_pair [] x y l e f = absurd (omega (arith, l))
note_of_pair (a ∷ []) x y l e f = absurd (omega (arith, l))
note_of_pair (a ∷ b ∷ []) x y l e f = ap (λ (z : ℕ). Two z y 256 256) e ∙ ap (λ (z : ℕ). Two a z 256 256) f
note_of_pair (a ∷ b ∷ d ∷ more) x y l e f = absurd (omega (arith, l))

pub note_of_more : (items : List ℕ) → (length items ≡ 1 → ⊥) → (length items ≡ 2 → ⊥) → Other ≡ note_by items
note_of_more [] one two = refl
note_of_more (a ∷ []) one two = absurd (one refl)
note_of_more (a ∷ b ∷ []) one two = absurd (two refl)
note_of_more (a ∷ b ∷ d ∷ more) one two = refl
