-- The rule on characters below U+0300, C7, of fewer lines and of the same lines in another order.
use Rattle.std.proofs.Common.{◌≡◌, ◌≢◌, ◌⊎◌, ℕ, ◌<◌, ◌≤◌, inl, inr, ⊎_elim, Bool, true, false, cond, not, ◌==◌, ◌&&◌, List, [], ◌∷◌, ◌++◌, length, get_or, Option, Some, None, refl, sym, ap, ◌∙◌, arith, length-append}
use Rattle.std.specs.Option.{unwrap_or}
use lib.Utf8.{low_scalar}
use Rattle.std.proofs.lemmas.Bool.{cases_eq, cases_lt, cond-false}
use Rattle.std.proofs.lemmas.Bool.Decides.{Decides-eqb, nat_tests}
use Rattle.std.proofs.lemmas.List.{get_or_append_left}
use Rattle.std.proofs.lemmas.List.Elements.{All-get_or}
use Rattle.std.proofs.lemmas.Option.{none-some, unwrap_or-slice_get}
use Rattle.icu_normalizer_core.specs.BuiltIn.{built_in_class, is_syllable, is_built_in}
use Rattle.icu_normalizer_core.specs.Canonical.{IsComposing, IsDecomposing}
use Rattle.icu_normalizer_core.proofs.built.BuiltInFacts.{syllable_pair}
use Rattle.icu_normalizer_core.proofs.building.AllStepLemmas.{cases_list}
use Rattle.collate_lines.specs.declared.rule.Rule.TheVariants.{V14}
use Rattle.collate_lines.specs.Record.{Record, nothing, mapping}
use Rattle.collate_lines.specs.Repeats.{is_second, record_at}
use Rattle.collate_rules.specs.Meaning.{canonical_of, class_in, class_of, compatibility_of, composed_in, first_found, mapping_in, pair_of, step_of}
use Rattle.collate_rules.specs.Offenders.{NoneOffends}
use Rattle.collate_rules.specs.Rules.{HasBadLow, HasLoop, MapsMark}
use Rattle.collate_rules.proofs.lookups.FoundLemmas.{mapping_line}
use Rattle.collate_record_rules.proofs.records.RecordGrowthLemmas.{first_found-append}
use Rattle.collate_rules.specs.Accepted.{AreScalars}
use Rattle.collate_records.proofs.comparing.OneLineLemmas.{mapping_second, none_found, says_once}
use Rattle.collate_records.proofs.mappings.ComposedPairLemmas.{IsOfLine, not_built_in, pair_cases}
use Rattle.collate_records.proofs.mappings.MappingDecomposingLemmas.{ends_without_loop}
use Rattle.collate_records.proofs.reordering.FewerLineLemmas.{compatibility_stays, step_stays}
use Rattle.collate_records.proofs.reordering.LowMovedLemmas.{IsFewer, own_before}

-- a syllable's class is built in
syllable_class : (c : ℕ) → is_syllable c ≡ true → built_in_class c ≡ Some 0
unfolding built_in_class
syllable_class c h = grind (arith, nat_tests)

class_by : (b o p : Option ℕ) → ((y : ℕ) → o ≡ Some y → p ≡ Some y) → 0 < unwrap_or b (unwrap_or o 0)
    → unwrap_or b (unwrap_or o 0) ≡ unwrap_or b (unwrap_or p 0)
class_by (Some k) o p stays some = refl
class_by None (Some k) p stays some = ap (λ (q : Option ℕ). unwrap_or q 0) (sym (stays k refl))
class_by None None p stays some = absurd (omega (arith, some))

-- a line that maps a character
own_mapping : (z : ℕ) (ds : List ℕ) (x : Bool) (s : Record) → s ≡ mapping z ds x → mapping_in z s ≡ Some ds
own_mapping z ds x s is =
    ap (mapping_in z) is ∙ ap (λ (b : Bool). cond {A = Option (List ℕ)} b (Some ds) None) ((Decides-eqb z z).1 refl)

-- a line that composes two characters
own_pair : (a b z : ℕ) (s : Record) → s ≡ mapping z (a ∷ b ∷ []) false → is_built_in z ≡ false → composed_in a b s ≡ Some z
own_pair a b z s is free =
    ap (composed_in a b) is
    ∙ ap (λ (t : Bool). cond {A = Option ℕ} (t && (b == b) && not (is_built_in z)) (Some z) None) ((Decides-eqb a a).1 refl)
    ∙ ap (λ (t : Bool). cond {A = Option ℕ} (t && not (is_built_in z)) (Some z) None) ((Decides-eqb b b).1 refl)
    ∙ ap (λ (t : Bool). cond {A = Option ℕ} (not t) (Some z) None) free

module _ (lines more : List Record) (once : NoneOffends V14 (lines ++ more)) (decomposing : IsDecomposing (canonical_of (lines ++ more)))
    (composes : IsComposing (canonical_of (lines ++ more))) where
  class_kept : (c : ℕ) → 0 < class_of lines c → class_of lines c ≡ class_of (lines ++ more) c
  class_kept c =
      class_by (built_in_class c) (first_found (class_in c) lines) (first_found (class_in c) (lines ++ more)) (first_found-append (class_in c) lines more)

  starters_before : (a b z : ℕ) → pair_of (lines ++ more) a b ≡ Some z → class_of lines z ≡ 0
  starters_before a b z pair =
      ⊎_elim
      (λ syllable.
      ap (λ (o : Option ℕ). unwrap_or o (unwrap_or (first_found (class_in z) lines) 0)) (syllable_class z (syllable_pair a b z syllable).syllable))
      (λ w. ⊎_elim
      (λ zero. zero)
      (λ mark.
      let some : 0 < class_of lines z = above (class_of lines z) mark in
      let starter : class_of (lines ++ more) z ≡ 0 =
      decomposing.starters z a (b ∷ []) (composes.scalars a b z pair) (not_built_in (lines ++ more) z w.free) (composes.mapped a b z pair) in
      omega (arith, some, class_kept z some, starter))
      (cases_eq (class_of lines z) 0))
      (pair_cases (lines ++ more) a b z pair)
    where
      above : (k : ℕ) → k ≢ 0 → 0 < k
      above k some = ⊎_elim (λ lt. lt) (λ le. absurd (some (omega (arith, le)))) (cases_lt 0 k)

  record_front : (i : ℕ) → i < length lines → record_at (lines ++ more) i ≡ record_at lines i
  record_front i lt =
      unwrap_or-slice_get (lines ++ more) i nothing ∙ get_or_append_left lines more nothing i lt ∙ sym (unwrap_or-slice_get lines i nothing)

  -- the line that composes a mapped character is its mapping line
  same_line : (a b z : ℕ) (w : IsOfLine (lines ++ more) a b z) (i : ℕ) (x : Bool) → i < length lines → record_at lines i ≡ mapping z (a ∷ b ∷ []) x → i ≡ w.i
  same_line a b z w i x lt line =
      let here : mapping_in z (record_at (lines ++ more) i) ≡ Some (a ∷ b ∷ []) = own_mapping z (a ∷ b ∷ []) x _ (record_front i lt ∙ line) in
      let there : mapping_in z (record_at (lines ++ more) w.i) ≡ Some (a ∷ b ∷ []) = own_mapping z (a ∷ b ∷ []) false _ w.line in
      let single = says_once (mapping_in z) is_second (mapping_second z) (lines ++ more) once in
      let inside : i < length (lines ++ more) = omega (arith, lt, length-append lines more) in
      ⊎_elim
      (λ (less : i < w.i). absurd (single i w.i (a ∷ b ∷ []) (a ∷ b ∷ []) less w.within here there))
      (λ (most : w.i ≤ i). ⊎_elim
      (λ (less : w.i < i). absurd (single w.i i (a ∷ b ∷ []) (a ∷ b ∷ []) less inside there here))
      (λ (least : i ≤ w.i). omega (arith, most, least))
      (cases_lt w.i i))
      (cases_lt i w.i)

  found_before : (a b z : ℕ) → IsOfLine (lines ++ more) a b z → pair_of (lines ++ more) a b ≡ Some z → step_of lines z ≡ a ∷ b ∷ [] → first_found (composed_in a b) lines ≡ Some z
  found_before a b z w pair is = by (first_found (composed_in a b) lines) refl
    where
      given : first_found (composed_in a b) (lines ++ more) ≡ Some z
      given =
          sym (ap (λ (o : Option ℕ). elim o as (λ _. Option ℕ) [ Some c ↦ Some c | None ↦ first_found (composed_in a b) (lines ++ more) ]) w.unbuilt) ∙ pair

      mapped_here : (o : Option (List ℕ)) → first_found (mapping_in z) lines ≡ o → unwrap_or o [] ≡ a ∷ b ∷ [] → first_found (mapping_in z) lines ≡ Some (a ∷ b ∷ [])
      mapped_here None e k = absurd (cc)
      mapped_here (Some ds) e k = e ∙ ap Some k

      by : (o : Option ℕ) → first_found (composed_in a b) lines ≡ o → first_found (composed_in a b) lines ≡ Some z
      by (Some y) e = e ∙ sym (first_found-append (composed_in a b) lines more y e) ∙ given
      by None e =
          let line = mapping_line lines z (a ∷ b ∷ []) (mapped_here (first_found (mapping_in z) lines) refl (sym (cond-false (is_built_in z) _ (unwrap_or (first_found (mapping_in z) lines) []) w.free) ∙ is)) in
          let at : line.0 ≡ w.i = same_line a b z w line.0 line.1 line.2 line.3 in
          let composed_line : record_at lines line.0 ≡ mapping z (a ∷ b ∷ []) false = sym (record_front line.0 line.2) ∙ ap (record_at (lines ++ more)) at ∙ w.line in
          let none : composed_in a b (get_or lines line.0 nothing) ≡ None = All-get_or (λ t. composed_in a b t ≡ None) lines line.0 nothing line.2 (none_found (composed_in a b) lines e) in
          absurd (none-some z (sym (ap (composed_in a b) (unwrap_or-slice_get lines line.0 nothing) ∙ none) ∙ own_pair a b z (record_at lines line.0) composed_line w.free))

  pairs_before : (a b z : ℕ) → pair_of (lines ++ more) a b ≡ Some z → step_of lines z ≡ a ∷ b ∷ [] → pair_of lines a b ≡ Some z
  pairs_before a b z pair is =
      ⊎_elim
      (λ syllable. ap (λ (o : Option ℕ). elim o as (λ _. Option ℕ) [ Some c ↦ Some c | None ↦ first_found (composed_in a b) lines ]) syllable)
      (λ w.
      ap (λ (o : Option ℕ). elim o as (λ _. Option ℕ) [ Some c ↦ Some c | None ↦ first_found (composed_in a b) lines ]) w.unbuilt
      ∙ found_before a b z w pair is)
      (pair_cases (lines ++ more) a b z pair)

  steps_before : (z : ℕ) → (step_of lines z ≡ []) ⊎ (step_of lines z ≡ step_of (lines ++ more) z)
  steps_before z =
      ⊎_elim (λ none. inl none) (λ w. inr (w.2 ∙ sym (step_stays lines more z w.0 w.1 w.2))) (cases_list (step_of lines z))

  fewer : IsFewer (canonical_of lines) (canonical_of (lines ++ more))
  fewer = record {
    mapping = composes.mapped;
    steps = steps_before;
    pairs = pairs_before;
    starters = starters_before;
    classes = class_kept;
  }

  step_some : (c : ℕ) → step_of lines c ≢ [] → step_of (lines ++ more) c ≢ []
  step_some c some none = ⊎_elim (λ empty. some empty) (λ same. some (same ∙ none)) (steps_before c)

  -- where all lines break nothing of the rule, fewer don't
  pub low_kept : AreScalars lines → (HasLoop lines → ⊥) → (MapsMark (lines ++ more) → ⊥) → (HasBadLow (lines ++ more) → ⊥) → HasBadLow lines → ⊥
  low_kept scalars loopless unmarked kept bad =
      let c = bad.0 in
      let low : c < 0x300 = bad.1.0 in
      let scalar = low_scalar c (omega (arith, low)) in
      ⊎_elim
      (λ mark.
      let starter = composes.starters c low in
      mark (⊎_elim (λ zero. zero) (λ some. absurd (some (none_above (class_of lines c) (λ above. omega (arith, above, class_kept c above, starter))))) (cases_eq (class_of lines c) 0)))
      (λ w. ⊎_elim
      (λ other.
      other (own_before (canonical_of lines) (canonical_of (lines ++ more)) fewer c (composes.starters c low) (decomposing.ends c scalar) (ends_without_loop lines scalars loopless c scalar) (composes.own c low)))
      (λ v. ⊎_elim
      (λ mapped. step_some c mapped.1 (composes.unmapped c mapped.0))
      (λ mapped. kept (c, (low, inr (inr (inr (mapped.0, compatibility_some c mapped.1))))))
      v)
      w)
      bad.1.1
    where
      none_above : (k : ℕ) → (0 < k → ⊥) → k ≡ 0
      none_above k none = ⊎_elim (λ lt. absurd (none lt)) (λ le. omega (arith, le)) (cases_lt 0 k)

      compatibility_some : (c : ℕ) → compatibility_of lines c ≢ [] → compatibility_of (lines ++ more) c ≢ []
      compatibility_some c some none =
          ⊎_elim (λ empty. some empty)
          (λ w. let stays = compatibility_stays lines more unmarked c w.0 w.1 w.2 in let off : w.0 ∷ w.1 ≡ [] = sym stays.1 ∙ none in absurd (cc))
          (cases_list (compatibility_of lines c))
