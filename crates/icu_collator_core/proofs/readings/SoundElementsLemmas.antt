-- The elements of a text of scalar values are single elements and whole numbers.
use Rattle.std.proofs.Common.{◌≡◌, ℕ, zero, suc, ◌<◌, ◌≤◌, Bool, true, leb, ltb, ◌==◌, ◌&&◌, List, [], ◌∷◌, ◌++◌, length, take, refl, sym, ◌∙◌, subst, arith, Option, Some, None}
use Rattle.std.proofs.lemmas.Bool.{cond_both, leb-true, and_parts}
use Rattle.std.proofs.lemmas.List.Elements.{All-from_recursion, recursion_from_All, All-contains_itself}
use Rattle.std.specs.Prelude.{filter_map}
use Rattle.std.specs.Char.{IsScalar}
use Rattle.std.specs.List.{All, AllByRecursion, Contains, cons_option}
use Rattle.std.specs.Option.{is_some, unwrap_or}
use Rattle.icu_normalizer_core.specs.Canonical.{Canonical, IsDecomposing, decomposed}
use Rattle.icu_collator_types.specs.declared.elements.Element.{Element}
use Rattle.icu_collator_core.specs.Weights.{Weights}
use Rattle.icu_collator_core.specs.Defaults.{special_primary, primary_element, default_primary, default_elements}
use Rattle.icu_collator_core.specs.Elements.{Placed, placed_behind, longest_prefix, at_greatest, behind_prefix, prefix_match, Reading, text_match, text_reading, digit_count, number_reading, is_before_accent, reading, elements_within, elements_of_list}
use Rattle.icu_collator_core.specs.WeightRules.{IsRecorded, AreSoundWeights}
use Rattle.icu_collator_core.specs.SoundElements.{of_record, by_default, AreDigits, IsSoundSequence, nothing, single, number}
use Rattle.icu_normalizer_core.proofs.decomposed_lists.DecomposedLemmas.{AreScalar, decomposed_scalars}
use Rattle.icu_collator_core.proofs.readings.ReadingLeftLemmas.{text_left, number_left}

by_option : {A R : Type 0} (o : Option A) (f : A → R) (n : R) (P : R → Type 0) → ((x : A) → o ≡ Some x → P (f x)) → (o ≡ None → P n)
    → P (elim o as (λ _. R) [ Some x ↦ f x | None ↦ n ])
by_option (Some x) f n P h g = h x refl
by_option None f n P h g = g refl

-- what is found somewhere
found_at : {A : Type 0} (found : ℕ → Option A) (n : ℕ) (x : A) → at_greatest found n ≡ Some x → (k : ℕ) × (found k ≡ Some x)
unfolding at_greatest
found_at found zero x e = (0, e)
found_at found (suc n) x e =
    by_option (found (suc n)) (λ y. Some y) (at_greatest found n) (λ o. o ≡ Some x → (k : ℕ) × (found k ≡ Some x))
    (λ y here same. (suc n, here ∙ same)) (λ _ later. found_at found n x later) e

placed_scalars : (before cs : List ℕ) → AreScalar cs → AllByRecursion (λ (p : Placed). IsScalar p.character) (placed_behind before cs)
unfolding placed_behind
placed_scalars before [] h = tt
placed_scalars before (c ∷ cs) h = (h.0, placed_scalars (take longest_prefix (c ∷ before)) cs h.1)

module _ (canonical : Canonical) (weights : Weights) (numeric : Bool) where
  abbrev ArePlaced : List Placed → Type 0
  ArePlaced ps = AllByRecursion (λ (p : Placed). IsScalar p.character) ps

  abbrev IsSound : List Element → Type 0
  IsSound es = IsSoundSequence weights numeric es

  -- elements that may stand before such a sequence
  abbrev Continue : List Element → Type 0
  Continue front = (es : List Element) → IsSound es → IsSound (front ++ es)

  abbrev IsGood : Reading → Type 0
  IsGood r = Continue r.elements × ArePlaced r.left

  recorded_before : (front es : List Element) → AllByRecursion (IsRecorded weights) front → IsSound es → IsSound (front ++ es)
  recorded_before [] es h s = s
  recorded_before (e ∷ front) es h s = single e (front ++ es) (of_record e h.0) (recorded_before front es h.1 s)

  map_all : {X : Type 0} (P Q : X → Type 0) (xs : List X) → ((x : X) → P x → Q x) → AllByRecursion P xs → AllByRecursion Q xs
  map_all P Q [] f h = tt
  map_all P Q (x ∷ xs) f h = (f x h.0, map_all P Q xs f h.1)

  recorded_continue : (prefix text : List ℕ) (front : List Element) → weights.recorded prefix text ≡ Some front → Continue front
  recorded_continue prefix text front e es s =
      recorded_before front es
      (map_all (Contains front) (IsRecorded weights) front (λ x within. (prefix, text, front, e, within)) (recursion_from_All (Contains front) front (All-contains_itself front))) s

  default_continue : (c : ℕ) → IsScalar c → Continue (default_elements weights c)
  default_continue c h es s = single (primary_element (default_primary weights c)) es (by_default c h) s

  prefix_continue : (p : Placed) (front : List Element) → prefix_match weights p ≡ Some front → Continue front
  prefix_continue p front e =
      let there = found_at (behind_prefix weights p) longest_prefix front e
      in cond_both (ltb 0 there.0 && leb there.0 (length p.before)) _ None (λ o. o ≡ Some front → Continue front)
      (λ _ f. recorded_continue _ _ front f) (λ _ f. cc) there.1

  or_default : (o : Option (List Element)) (c : ℕ) → IsScalar c → ((es : List Element) → o ≡ Some es → Continue es) → Continue (unwrap_or o (default_elements weights c))
  or_default (Some es) c s h = h es refl
  or_default None c s h = default_continue c s

  text_good : (c : ℕ) (ps : List Placed) → IsScalar c → ArePlaced ps → IsGood (text_reading canonical weights c ps)
  unfolding text_reading text_match
  text_good c ps s h =
      (or_default (weights.recorded [] (text_match canonical weights ps).text) c s (λ es e. recorded_continue [] (text_match canonical weights ps).text es e), text_left canonical weights (λ (p : Placed). IsScalar p.character) c ps h)

  abbrev digits_of : List Placed → List ℕ
  digits_of ps = filter_map (λ (p : Placed). weights.digit p.character) ps

  digit_front : (o : Option ℕ) (ds : List ℕ) → ((d : ℕ) → o ≡ Some d → d ≤ 9) → AllByRecursion (λ d. d ≤ 9) ds → AllByRecursion (λ d. d ≤ 9) (cons_option o ds)
  digit_front (Some d) ds h g = (h d refl, g)
  digit_front None ds h g = g

  digits_sound : AreSoundWeights weights → (ps : List Placed) → AllByRecursion (λ d. d ≤ 9) (digits_of ps)
  digits_sound w [] = tt
  digits_sound w (p ∷ ps) = digit_front (weights.digit p.character) (digits_of ps) (λ d e. leb-true d 9 (w.digits p.character d e)) (digits_sound w ps)

  some_long : (o : Option ℕ) (ds : List ℕ) → is_some o ≡ true → 0 < length (cons_option o ds)
  some_long (Some d) ds h = omega arith
  some_long None ds h = cc

  first_taken : (k n : ℕ) (p : Placed) (ps : List Placed) → k ≡ suc n → take k (p ∷ ps) ≡ p ∷ take n ps
  first_taken k n p ps e = rw e refl

  counted_first : (p : Placed) (ps : List Placed) → is_some (weights.digit p.character) ≡ true → digit_count weights (p ∷ ps) ≡ suc (digit_count weights ps)
  counted_first p ps h = rw h (omega arith)

  first_digit : (p : Placed) (ps : List Placed) → is_some (weights.digit p.character) ≡ true → 0 < length (digits_of (take (digit_count weights (p ∷ ps)) (p ∷ ps)))
  first_digit p ps h =
      let n = digit_count weights ps
      in subst (λ taken. 0 < length (digits_of taken)) (sym (first_taken (digit_count weights (p ∷ ps)) n p ps (counted_first p ps h)))
      (some_long (weights.digit p.character) (digits_of (take n ps)) h)

  number_good : AreSoundWeights weights → (p : Placed) (ps : List Placed) → numeric ≡ true → is_some (weights.digit p.character) ≡ true → ArePlaced (p ∷ ps)
      → IsGood (number_reading weights (p ∷ ps))
  unfolding number_reading
  number_good w p ps on is h =
      let digits = digits_of (take (digit_count weights (p ∷ ps)) (p ∷ ps))
      in let are : AreDigits digits = record { filled = first_digit p ps is; up_to_nine = All-from_recursion (λ d. d ≤ 9) digits (digits_sound w _) }
      in (λ es s. number digits es on are s, number_left canonical weights (λ (p : Placed). IsScalar p.character) (p ∷ ps) h)

  special_default : (c s : ℕ) → special_primary c ≡ Some s → default_primary weights c ≡ s
  unfolding default_primary
  special_default c s e = rw (e, default_primary) refl

  special_continue : (c s : ℕ) → IsScalar c → special_primary c ≡ Some s → Continue (primary_element s ∷ [])
  special_continue c s scalar e = subst (λ q. Continue (primary_element q ∷ [])) (special_default c s e) (default_continue c scalar)

  reading_good : AreSoundWeights weights → (p : Placed) (ps : List Placed) → IsScalar p.character → ArePlaced ps → IsGood (reading canonical weights numeric p ps)
  unfolding reading
  reading_good w p ps s h =
      let c = p.character
      in by_option {R = Reading} (special_primary c) (λ q. record { elements = primary_element q ∷ []; left = ps }) _ IsGood (λ q e. (special_continue c q s e, h))
      (λ _. cond_both (numeric && is_some (weights.digit c)) (number_reading weights (p ∷ ps)) _ IsGood
      (λ n. let both = and_parts numeric (is_some (weights.digit c)) n in number_good w p ps both.0 both.1 (s, h))
      (λ _. cond_both (weights.dot_above && (c == 0x307) && is_before_accent ps) (record { elements = []; left = ps }) _ IsGood (λ _. (λ es t. t, h))
      (λ _. by_option {R = Reading} (prefix_match weights p) (λ es. record { elements = es; left = ps }) (text_reading canonical weights c (p ∷ ps)) IsGood
      (λ es e. (prefix_continue p es e, h)) (λ _. text_good c (p ∷ ps) s (s, h)))))

  within_sound : AreSoundWeights weights → (n : ℕ) (ps : List Placed) → ArePlaced ps → IsSound (elements_within n canonical weights numeric ps)
  unfolding elements_within
  within_sound w zero ps h = nothing
  within_sound w (suc n) [] h = nothing
  within_sound w (suc n) (p ∷ ps) h =
      let first = reading_good w p ps h.0 h.1
      in first.0 _ (within_sound w n (reading canonical weights numeric p ps).left first.1)

-- The elements of every text of scalar values are such a sequence.
pub text_elements_sound : (canonical : Canonical) (weights : Weights) (numeric : Bool) (text : List ℕ) → IsDecomposing canonical → AreSoundWeights weights → All IsScalar text
    → IsSoundSequence weights numeric (elements_of_list canonical weights numeric (decomposed canonical text))
text_elements_sound canonical weights numeric text d w h =
    within_sound canonical weights numeric w _ _ (placed_scalars [] (decomposed canonical text) (decomposed_scalars canonical text d (recursion_from_All IsScalar text h)))
