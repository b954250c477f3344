-- The primaries of characters that are read flat, and of two that are read together.
use Rattle.std.proofs.Common.{◌≡◌, ℕ, ◌≤◌, false, true, List, [], ◌∷◌, ◌++◌, Option, Some, ◌⊎◌, ⊎_elim, inl, refl, sym, ◌∙◌, ap, subst, arith, append_assoc, append-nil}
use Rattle.std.specs.Option.{is_some}
use Rattle.std.specs.Prelude.{IfSome, None}
use Rattle.std.proofs.lemmas.Bool.{and_parts, false≢true}
use Rattle.std.proofs.lemmas.List.Elements.{filter_map-append}
use lib.Utf8.{scalar, scalars}
use Rattle.icu_normalizer_core.specs.Canonical.{IsDecomposing}
use Rattle.icu_collator_core.specs.Acceptance.{CollationSource}
use Rattle.icu_collator_core.specs.FlatNotes.{IsFlat, MayFollow, MayStandBehind}
use Rattle.icu_collator_core.specs.FlatSteps.{primaries_in, primary_if_any, primary_in}
use Rattle.icu_collator_core.specs.NextPrimaries.{HasPrimaries, IsPushedWith, StartsBehind}
use Rattle.icu_collator_core.specs.Pools.{element_of}
use Rattle.icu_collator_core.specs.ReadSources.{canonical_by}
use Rattle.icu_collator_core.specs.declared.flat.primaries.NextPrimaries.{NextPrimaries}
use Rattle.icu_collator_core.proofs.readings.FlatStepLemmas.{one_primary}

-- ---- the primaries of few elements

pub two_listed : (bits other p q : ℕ) → (element_of bits).primary ≡ p → (element_of other).primary ≡ q
    → primaries_in (bits ∷ other ∷ []) ≡ primary_if_any p ++ primary_if_any q
two_listed bits other p q e f =
    filter_map-append primary_in (bits ∷ []) (other ∷ [])
    ∙ ap (λ (ps : List ℕ). primaries_in (bits ∷ []) ++ ps) (one_primary other q f)
    ∙ ap (λ (ps : List ℕ). ps ++ primary_if_any q) (one_primary bits p e)

-- ---- one character

module _ (source : CollationSource) (numeric : Option ℕ) where
  abbrev class : ℕ → ℕ
  class = (canonical_by source).class

  module _ (c before trail : ℕ) (next : NextPrimaries) where
    pub one_has : (bits p : ℕ) → IsFlat source numeric c before (bits ∷ []) trail → (element_of bits).primary ≡ p
        → next ≡ record { first = p; second = 0; third = 0; class = trail } → HasPrimaries source numeric c before next
    one_has bits p flat is same =
        subst (HasPrimaries source numeric c before) (sym same)
        (λ old. (
          old ++ bits ∷ [],
          record {
            pushed = record { items = bits ∷ []; flat = flat; appended = refl };
            primaries = filter_map-append primary_in old (bits ∷ [])
                ∙ ap (λ (ps : List ℕ). primaries_in old ++ ps) (one_primary bits p is ∙ sym (append-nil (primary_if_any p)));
          },
        ))

    pub two_have : (bits other p q : ℕ) → IsFlat source numeric c before (bits ∷ other ∷ []) trail → (element_of bits).primary ≡ p → (element_of other).primary ≡ q
        → next ≡ record { first = p; second = q; third = 0; class = trail } → HasPrimaries source numeric c before next
    two_have bits other p q flat is too same =
        subst (HasPrimaries source numeric c before) (sym same)
        (λ old. (
          old ++ bits ∷ other ∷ [],
          record {
            pushed = record { items = bits ∷ other ∷ []; flat = flat; appended = refl };
            primaries = filter_map-append primary_in old (bits ∷ other ∷ [])
                ∙ ap (λ (ps : List ℕ). primaries_in old ++ ps)
                (two_listed bits other p q is too ∙ ap (λ (ps : List ℕ). primary_if_any p ++ ps) (sym (append-nil (primary_if_any q))));
          },
        ))

  -- ---- characters one after another, as letters of a syllable

  -- one with a single primary
  one_more : (c before : ℕ) (old new : List ℕ) (next : NextPrimaries) → IsPushedWith source numeric c before old next new → next.second ≡ 0 → next.third ≡ 0
      → primaries_in new ≡ primaries_in old ++ primary_if_any next.first
  one_more c before old new next h second third =
      h.primaries
      ∙ ap (λ (q : ℕ). primaries_in old ++ (primary_if_any next.first ++ (primary_if_any q ++ primary_if_any next.third))) second
      ∙ ap (λ (r : ℕ). primaries_in old ++ (primary_if_any next.first ++ ([] ++ primary_if_any r))) third
      ∙ ap (λ (ps : List ℕ). primaries_in old ++ ps) (append-nil (primary_if_any next.first))

  pub two_more : (a b before : ℕ) (old one two : List ℕ) (first second : NextPrimaries) → IsPushedWith source numeric a before old first one → first.second ≡ 0 → first.third ≡ 0
      → IsPushedWith source numeric b first.class one second two → second.second ≡ 0 → second.third ≡ 0
      → primaries_in two ≡ primaries_in old ++ (primary_if_any first.first ++ (primary_if_any second.first ++ []))
  two_more a b before old one two first second h none nothing g also either =
      one_more b first.class one two second g also either
      ∙ ap (λ (ps : List ℕ). ps ++ primary_if_any second.first) (one_more a before old one first h none nothing)
      ∙ append_assoc (primaries_in old) (primary_if_any first.first) (primary_if_any second.first)
      ∙ ap (λ (ps : List ℕ). primaries_in old ++ (primary_if_any first.first ++ ps)) (sym (append-nil (primary_if_any second.first)))

  pub three_more : (a b d before : ℕ) (old one two three : List ℕ) (first second third : NextPrimaries) → IsPushedWith source numeric a before old first one → first.second ≡ 0 → first.third ≡ 0
      → IsPushedWith source numeric b first.class one second two → second.second ≡ 0 → second.third ≡ 0
      → IsPushedWith source numeric d second.class two third three → third.second ≡ 0 → third.third ≡ 0
      → primaries_in three ≡ primaries_in old ++ (primary_if_any first.first ++ (primary_if_any second.first ++ primary_if_any third.first))
  three_more a b d before old one two three first second third h none nothing g also either last lacking neither =
      one_more d second.class two three third last lacking neither
      ∙ ap (λ (ps : List ℕ). ps ++ primary_if_any third.first) (one_more b first.class one two second g also either)
      ∙ append_assoc (primaries_in one) (primary_if_any second.first) (primary_if_any third.first)
      ∙ ap (λ (ps : List ℕ). ps ++ (primary_if_any second.first ++ primary_if_any third.first)) (one_more a before old one first h none nothing)
      ∙ append_assoc (primaries_in old) (primary_if_any first.first) (primary_if_any second.first ++ primary_if_any third.first)

  -- ---- what may stand after any class begins with a starter

  starter_of : (x least : ℕ) → IsDecomposing (canonical_by source) → scalar x ≡ true → 255 ≤ least → MayFollow least (class x) → class x ≡ 0
  starter_of x least decomposing ok above follows =
      ⊎_elim (λ (e : class x ≡ 0). e) (λ (e : least ≤ class x). let bound = decomposing.classes x ok in absurd (omega (arith, e, bound, above))) follows

  pub starts_at : (c class least : ℕ) (next : NextPrimaries) → IsDecomposing (canonical_by source) → 255 ≤ least → (class ≤ 255) ⊎ (least ≡ class)
      → HasPrimaries source numeric c least next → StartsBehind source numeric c class
  starts_at c k least next decomposing above fits has =
      let flat = (has []).1.pushed.flat in
      let ok = (and_parts (scalar flat.first) (scalars flat.rest) flat.characters).0 in
      record {
        first = flat.first;
        rest = flat.rest;
        full = flat.full;
        starter = starter_of flat.first least decomposing ok above flat.order.0;
        follows = ⊎_elim (λ (small : k ≤ 255). inl small)
            (λ (same : least ≡ k). subst (λ (n : ℕ). MayStandBehind source numeric n (flat.first ∷ flat.rest)) same flat.follows) fits;
      }

  -- so it does where its primaries were told
  pub starts_told : (c class least : ℕ) (told : Option NextPrimaries) → IsDecomposing (canonical_by source) → 255 ≤ least → (class ≤ 255) ⊎ (least ≡ class)
      → IfSome told (λ next. HasPrimaries source numeric c least next) → is_some told ≡ true → StartsBehind source numeric c class
  starts_told c k least None decomposing above fits has is = absurd (false≢true is)
  starts_told c k least (Some next) decomposing above fits has is = starts_at c k least next decomposing above fits has
