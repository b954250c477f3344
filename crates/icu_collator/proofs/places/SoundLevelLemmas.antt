-- The levels of elements that stand at their places keep the rules that keys need.
use Rattle.std.proofs.Common.{◌≡◌, ◌≢◌, ℕ, ◌≤◌, ◌+◌, ◌*◌, ◌-◌, ◌%◌, ◌^◌, Bool, true, false, cond, List, [], ◌∷◌, ◌++◌, length, length-append, refl, sym, ◌∙◌, ap, subst, arith, Option, Some, None}
use Rattle.std.proofs.lemmas.Bool.{cond_both, eqb-true, eqb-false, eq-eqb, ne_eqb}
use Rattle.std.proofs.lemmas.Bool.Decides.{nat_tests}
use mathlib.Core.Bool.{true≢false}
use Rattle.std.specs.Prelude.{◌==◌, ◌&&◌, ◌||◌, not, filter_map}
use Rattle.std.specs.Char.{IsScalar}
use Rattle.std.specs.List.{AllByRecursion, cons_option}
use Rattle.icu_collator_types.specs.declared.elements.Element.{Element}
use Rattle.icu_collator_types.specs.declared.options.Strength.TheVariants.{Secondary}
use Rattle.icu_collator_types.specs.declared.options.ResolvedCollatorOptions.{ResolvedCollatorOptions}
use Rattle.icu_collator_types.specs.Options.{has_case_bits, is_at_least, is_numeric, is_shifted, is_upper_first}
use Rattle.icu_collator_core.specs.Collation.{Collation}
use Rattle.icu_collator_core.specs.WeightRules.{AreSoundWeights}
use Rattle.icu_collator.specs.Levels.{Levels, SecondaryPlace, segment_end, secondary, QuaternaryPlace, quaternary, unless_zero, primary_at, secondary_at, backward_from, secondaries_of, case_at, tertiary_weight, tertiary_at, quaternary_at, levels_of}
use Rattle.icu_collator.specs.Order.{quaternary_rank}
use Rattle.icu_collator.specs.Settings.{AreSoundSettings}
use Rattle.icu_collator.specs.Shifted.{Counted, whole, variable, counted}
use Rattle.icu_collator.proofs.keys.CodesLemmas.{AllFrom}
use Rattle.icu_collator.proofs.keys.CommonAloneLemmas.{NoneBelow}
use Rattle.icu_collator.proofs.keys.CaseLevelLemmas.{IsCase, past as past_case}
use Rattle.icu_collator.proofs.keys.CharacterLevelLemmas.{IsCharacter}
use Rattle.icu_collator.proofs.keys.TertiaryLevelLemmas.{IsTertiaryAt, past as past_tertiary}
use Rattle.icu_collator.proofs.keys.SecondaryLevelLemmas.{IsSecondaryAt, past as past_secondary}
use Rattle.icu_collator.proofs.keys.PrimaryLevelLemmas.{ArePrimaries, none_starts}
use Rattle.icu_collator.proofs.keys.QuaternaryLevelLemmas.{IsPlace, next_place}
use Rattle.icu_collator.proofs.keys.KeyBytesLemmas.{AreLevelsInPlace}
use Rattle.icu_collator.proofs.places.PrimaryPlaceLemmas.{Place, outside, primaries_apart}
use Rattle.icu_collator.proofs.places.NumberPlaceLemmas.{Reaches}
use Rattle.icu_collator.proofs.places.SoundWeightLemmas.{IsSecondaryWeight, IsTertiaryWeight, secondaries_are, tertiaries_are, tertiary_below}
use Rattle.icu_collator.proofs.places.CountedPlaceLemmas.{Flow as FlowAt, IsAt as IsPrimaryThere, next as next_there, IsOutside as IsOutsideThere, whole_behind as whole_behind_there, numbers_vary as vary, shifted_side, same_side, same_whole, counted_flow}

from_option : {S W : Type 0} (IsOne : S → W → Type 0) (next : S → W → S) (s : S) (w : ℕ) (x : W) (ws : List W)
    → (w ≢ 0 → IsOne s x × AllFrom IsOne next (next s x) ws) → (w ≡ 0 → AllFrom IsOne next s ws)
    → AllFrom IsOne next s (cons_option (unless_zero w x) ws)
from_option {W = W} IsOne next s w x ws h g =
    cond_both (w == 0) None (Some x) (λ (o : Option W). AllFrom IsOne next s (cons_option o ws)) (λ z. g (eqb-true w 0 z)) (λ z. h (eqb-false w 0 z))

module _ (collation : Collation) (sound : AreSoundWeights collation.weights) (settings : AreSoundSettings collation) (options : ResolvedCollatorOptions) where
  abbrev numeric_on : Bool
  numeric_on = is_numeric options.numeric

  abbrev IsAt : Place → ℕ → Type 0
  IsAt = IsPrimaryThere collation sound settings options

  abbrev next : Place → ℕ → Place
  next = next_there collation sound settings options

  abbrev IsOutside : Place → Type 0
  IsOutside = IsOutsideThere collation sound settings options

  abbrev whole_behind : Place → Element → Place
  whole_behind = whole_behind_there collation sound settings options

  abbrev Flow : Place → Place → List Counted → Type 0
  Flow = FlowAt collation sound settings options

  abbrev numbers_vary : Bool
  numbers_vary = vary collation sound settings options

  -- ---- each level

  primaries_sound : (s w : Place) (cs : List Counted) → Flow s w cs → AllFrom IsAt next w (filter_map (primary_at collation) cs)
  primaries_sound s w [] h = tt
  primaries_sound s w (variable p ∷ cs) h = primaries_sound (next s (collation.reordered p)) w cs h.2
  primaries_sound s w (whole e ∷ cs) h =
      let later = primaries_sound s (whole_behind w e) cs h.3
      in from_option IsAt next w e.primary (collation.reordered e.primary) (filter_map (primary_at collation) cs)
      (λ some. (h.2 some, subst (λ p. AllFrom IsAt next p (filter_map (primary_at collation) cs)) (ap (λ is. cond is w (next w (collation.reordered e.primary))) (ne_eqb e.primary 0 some)) later))
      (λ none. subst (λ p. AllFrom IsAt next p (filter_map (primary_at collation) cs)) (ap (λ is. cond is w (next w (collation.reordered e.primary))) (eq-eqb e.primary 0 none)) later)

  abbrev IsSecond : Unit {0} → SecondaryPlace → Type 0
  IsSecond = IsSecondaryAt (IsSecondaryWeight collation.weights sound) (secondaries_are collation.weights sound)

  abbrev past_second : Unit {0} → SecondaryPlace → Unit {0}
  past_second = past_secondary (IsSecondaryWeight collation.weights sound) (secondaries_are collation.weights sound)

  abbrev AreSecond : List SecondaryPlace → Type 0
  AreSecond ws = AllFrom IsSecond past_second tt ws

  second_behind : (vs ws : List SecondaryPlace) → AreSecond vs → AreSecond ws → AreSecond (vs ++ ws)
  second_behind [] ws h g = g
  second_behind (v ∷ vs) ws h g = (h.0, second_behind vs ws h.1 g)

  forward_sound : (s w : Place) (cs : List Counted) → Flow s w cs → AreSecond (filter_map secondary_at cs)
  forward_sound s w [] h = tt
  forward_sound s w (variable p ∷ cs) h = forward_sound (next s (collation.reordered p)) w cs h.2
  forward_sound s w (whole e ∷ cs) h =
      let later = forward_sound s (whole_behind w e) cs h.3
      in from_option IsSecond past_second tt e.secondary (secondary e.secondary) (filter_map secondary_at cs) (λ some. (h.1.secondary some, later)) (λ none. later)

  backward_sound : (s w : Place) (before : List SecondaryPlace) (cs : List Counted) → AreSecond before → Flow s w cs → AreSecond (backward_from before cs)
  unfolding backward_from
  backward_sound s w before [] b h = b
  backward_sound s w before (variable p ∷ cs) b h = backward_sound (next s (collation.reordered p)) w before cs b h.2
  backward_sound s w before (whole e ∷ cs) b h =
      let ended = backward_sound s (whole_behind w e) [] cs tt h.3
      in let skipped = backward_sound s (whole_behind w e) before cs b h.3
      in let further : e.secondary ≢ 0 → AreSecond (backward_from (secondary e.secondary ∷ before) cs) = λ some. backward_sound s (whole_behind w e) (secondary e.secondary ∷ before) cs (h.1.secondary some, b) h.3
      in cond_both (e.primary == 0x02000000) (before ++ segment_end ∷ backward_from [] cs) _ AreSecond
      (λ _. second_behind before (segment_end ∷ backward_from [] cs) b (tt, ended))
      (λ _. cond_both (e.secondary == 0) None (Some (secondary e.secondary)) (λ (o : Option SecondaryPlace). AreSecond (elim o as (λ _. List SecondaryPlace) [ Some s ↦ backward_from (s ∷ before) cs | None ↦ backward_from before cs ]))
      (λ _. skipped) (λ z. further (eqb-false e.secondary 0 z)))

  secondaries_sound : (s w : Place) (cs : List Counted) → Flow s w cs → AreSecond (secondaries_of collation cs)
  secondaries_sound s w cs h = cond_both collation.backward (backward_from [] cs) (filter_map secondary_at cs) AreSecond (λ _. backward_sound s w [] cs tt h) (λ _. forward_sound s w cs h)

  case_of : (upper : Bool) (c : ℕ) → c ≤ 2 → cond upper (2 - c) c ≤ 2
  case_of true c h = omega arith
  case_of false c h = h

  cases_sound : (s w : Place) (cs : List Counted) → Flow s w cs → AllFrom IsCase past_case tt (filter_map (case_at options) cs)
  cases_sound s w [] h = tt
  cases_sound s w (variable p ∷ cs) h = cases_sound (next s (collation.reordered p)) w cs h.2
  cases_sound s w (whole e ∷ cs) h =
      let later = cases_sound s (whole_behind w e) cs h.3
      in let own = case_of (is_upper_first options.case_first) e.case h.1.case
      in cond_both (not (e.secondary == 0) && (is_at_least options.strength Secondary || not (e.primary == 0))) (Some (cond (is_upper_first options.case_first) (2 - e.case) e.case)) None
      (λ (o : Option ℕ). AllFrom IsCase past_case tt (cons_option o (filter_map (case_at options) cs))) (λ _. (own, later)) (λ _. later)

  abbrev IsThirdWeight : ℕ → Type 0
  IsThirdWeight = IsTertiaryWeight collation.weights sound

  abbrev IsThird : Unit {0} → ℕ → Type 0
  IsThird = IsTertiaryAt IsThirdWeight (tertiaries_are collation.weights sound) (has_case_bits options) (is_upper_first options.case_first)

  abbrev past_third : Unit {0} → ℕ → Unit {0}
  past_third = past_tertiary IsThirdWeight (tertiaries_are collation.weights sound)

  abbrev Cased : Bool → Bool → ℕ → Type 0
  Cased bits upper w = IsTertiaryAt IsThirdWeight (tertiaries_are collation.weights sound) bits upper tt w

  third_at : (t w : ℕ) → t ≡ w % 2 ^ 14 → IsThirdWeight t → IsThirdWeight (w % 2 ^ 14)
  third_at t w e h = subst IsThirdWeight e h

  cased : (bits upper second_none : Bool) (c t : ℕ) → c ≤ 2 → IsThirdWeight t
      → Cased bits upper (cond bits (cond upper (cond second_none (c * 2 ^ 14 + t + 0x4000) ((3 - c) * 2 ^ 14 + t)) (c * 2 ^ 14 + t)) t)
  cased false upper b c t h one = let low = tertiary_below collation.weights sound t one in let high = low.1 in (third_at t t (omega (arith, high)) one, omega arith, high)
  cased true false b c t h one = let low = tertiary_below collation.weights sound t one in let high = low.1 in (third_at t (c * 2 ^ 14 + t) (omega (arith, high)) one, omega arith, omega (arith, high, h))
  cased true true true c t h one = let low = tertiary_below collation.weights sound t one in let high = low.1 in (third_at t (c * 2 ^ 14 + t + 0x4000) (omega (arith, high)) one, omega arith, omega (arith, high, h))
  cased true true false c t h one = let low = tertiary_below collation.weights sound t one in let high = low.1 in (third_at t ((3 - c) * 2 ^ 14 + t) (omega (arith, high)) one, omega (arith, h), omega (arith, high, h))

  tertiaries_sound : (s w : Place) (cs : List Counted) → Flow s w cs → AllFrom IsThird past_third tt (filter_map (tertiary_at options) cs)
  tertiaries_sound s w [] h = tt
  tertiaries_sound s w (variable p ∷ cs) h = tertiaries_sound (next s (collation.reordered p)) w cs h.2
  tertiaries_sound s w (whole e ∷ cs) h =
      let later = tertiaries_sound s (whole_behind w e) cs h.3
      in from_option IsThird past_third tt e.tertiary (tertiary_weight options e) (filter_map (tertiary_at options) cs)
      (λ some. (cased (has_case_bits options) (is_upper_first options.case_first) (e.secondary == 0) e.case e.tertiary h.1.case (h.1.tertiary some), later)) (λ none. later)

  none_shifted : (s w : Place) (cs : List Counted) → not (is_shifted options.alternate_handling) ≡ true → Flow s w cs → NoneBelow quaternary_rank (2 ^ 32) (filter_map (quaternary_at collation) cs)
  none_shifted s w [] plain h = tt
  none_shifted s w (variable p ∷ cs) plain h = absurd (true≢false (sym plain ∙ ap not h.0))
  none_shifted s w (whole e ∷ cs) plain h =
      let later = none_shifted s (whole_behind w e) cs plain h.3
      in cond_both (e.tertiary == 0) None (Some (quaternary e.quaternary)) (λ (o : Option QuaternaryPlace). NoneBelow quaternary_rank (2 ^ 32) (cons_option o (filter_map (quaternary_at collation) cs)))
      (λ _. later) (λ _. (omega arith, later))

  quaternary_each : (s w : Place) (cs : List Counted) → not (is_shifted options.alternate_handling) ≡ true → Flow s w cs → length (filter_map (quaternary_at collation) cs) ≡ length (filter_map (tertiary_at options) cs)
  quaternary_each s w [] plain h = refl
  quaternary_each s w (variable p ∷ cs) plain h = absurd (true≢false (sym plain ∙ ap not h.0))
  quaternary_each s w (whole e ∷ cs) plain h = both_long (e.tertiary == 0) (quaternary e.quaternary) (tertiary_weight options e) _ _ (quaternary_each s (whole_behind w e) cs plain h.3)
    where
      both_long : (b : Bool) (q : QuaternaryPlace) (t : ℕ) (qs : List QuaternaryPlace) (ts : List ℕ) → length qs ≡ length ts → length (cons_option (cond b None (Some q)) qs) ≡ length (cons_option (cond b None (Some t)) ts)
      both_long true q t qs ts e = e
      both_long false q t qs ts e = omega (arith, e)

  -- a case for each primary
  case_primary : (s w : Place) (cs : List Counted) → is_at_least options.strength Secondary ≡ false → Flow s w cs → length (filter_map (case_at options) cs) ≡ length (filter_map (primary_at collation) cs)
  case_primary s w [] low h = refl
  case_primary s w (variable p ∷ cs) low h = case_primary (next s (collation.reordered p)) w cs low h.2
  case_primary s w (whole e ∷ cs) low h =
      both_long (e.secondary == 0) (is_at_least options.strength Secondary) (e.primary == 0) (cond (is_upper_first options.case_first) (2 - e.case) e.case) (collation.reordered e.primary) _ _ low
      (λ some. ne_eqb e.secondary 0 (h.1.with_secondary (eqb-false e.primary 0 some))) (case_primary s (whole_behind w e) cs low h.3)
    where
      both_long : (b a p : Bool) (c q : ℕ) (xs ys : List ℕ) → a ≡ false → (p ≡ false → b ≡ false) → length xs ≡ length ys
          → length (cons_option (cond (not b && (a || not p)) (Some c) None) xs) ≡ length (cons_option (cond p None (Some q)) ys)
      both_long b true p c q xs ys l f e = absurd (true≢false l)
      both_long true false true c q xs ys l f e = e
      both_long true false false c q xs ys l f e = absurd (true≢false (f refl))
      both_long false false true c q xs ys l f e = e
      both_long false false false c q xs ys l f e = omega (arith, e)

  -- a case for each secondary, forward and backward
  second_long : (b a p : Bool) (c : ℕ) (x : SecondaryPlace) (xs : List ℕ) (ys : List SecondaryPlace) → a ≡ true → length xs ≡ length ys
      → length (cons_option (cond (not b && (a || not p)) (Some c) None) xs) ≡ length (cons_option (cond b None (Some x)) ys)
  second_long b false p c x xs ys l e = absurd (true≢false (sym l))
  second_long true true p c x xs ys l e = e
  second_long false true p c x xs ys l e = omega (arith, e)

  case_forward : (s w : Place) (cs : List Counted) → is_at_least options.strength Secondary ≡ true → Flow s w cs → length (filter_map (case_at options) cs) ≡ length (filter_map secondary_at cs)
  case_forward s w [] high h = refl
  case_forward s w (variable p ∷ cs) high h = case_forward (next s (collation.reordered p)) w cs high h.2
  case_forward s w (whole e ∷ cs) high h =
      second_long (e.secondary == 0) (is_at_least options.strength Secondary) (e.primary == 0) _ (secondary e.secondary) _ _ high (case_forward s (whole_behind w e) cs high h.3)

  case_count : (b a p : Bool) (c : ℕ) (xs : List ℕ) → a ≡ true → length (cons_option (cond (not b && (a || not p)) (Some c) None) xs) ≡ cond b (length xs) (length xs + 1)
  case_count b false p c xs l = absurd (true≢false (sym l))
  case_count true true p c xs l = refl
  case_count false true p c xs l = omega arith

  case_backward : (s w : Place) (before : List SecondaryPlace) (cs : List Counted) → is_at_least options.strength Secondary ≡ true → Flow s w cs
      → length (backward_from before cs) ≡ length before + length (filter_map (case_at options) cs)
  unfolding backward_from
  case_backward s w before [] high h = omega arith
  case_backward s w before (variable p ∷ cs) high h = case_backward (next s (collation.reordered p)) w before cs high h.2
  case_backward s w before (whole e ∷ cs) high h =
      let rest = filter_map (case_at options) cs
      in let all : ℕ = length (filter_map (case_at options) (whole e ∷ cs))
      in let count : all ≡ cond (e.secondary == 0) (length rest) (length rest + 1) = case_count (e.secondary == 0) (is_at_least options.strength Secondary) (e.primary == 0) _ rest high
      in let ended = case_backward s (whole_behind w e) [] cs high h.3
      in let skipped = case_backward s (whole_behind w e) before cs high h.3
      in let further = case_backward s (whole_behind w e) (secondary e.secondary ∷ before) cs high h.3
      in cond_both (e.primary == 0x02000000) (before ++ segment_end ∷ backward_from [] cs) _ (λ (ws : List SecondaryPlace). length ws ≡ length before + all)
      (λ z.
      let some : e.secondary ≢ 0 = h.1.with_secondary (λ none. let at = eqb-true e.primary 0x02000000 z in omega (arith, none, at))
      in let one : all ≡ length rest + 1 = count ∙ ap (λ b. cond b (length rest) (length rest + 1)) (ne_eqb e.secondary 0 some)
      in let long = length-append before (segment_end ∷ backward_from [] cs)
      in omega (arith, one, long, ended))
      (λ _. cond_both (e.secondary == 0) None (Some (secondary e.secondary)) (λ (o : Option SecondaryPlace). length (elim o as (λ _. List SecondaryPlace) [ Some s ↦ backward_from (s ∷ before) cs | None ↦ backward_from before cs ]) ≡ length before + all)
      (λ z. let none : all ≡ length rest = count ∙ ap (λ b. cond b (length rest) (length rest + 1)) z in omega (arith, none, skipped))
      (λ z. let one : all ≡ length rest + 1 = count ∙ ap (λ b. cond b (length rest) (length rest + 1)) z in omega (arith, one, further)))

  case_second : (s w : Place) (cs : List Counted) → is_at_least options.strength Secondary ≡ true → Flow s w cs → length (filter_map (case_at options) cs) ≡ length (secondaries_of collation cs)
  case_second s w cs high h =
      cond_both collation.backward (backward_from [] cs) (filter_map secondary_at cs) (λ ws. length (filter_map (case_at options) cs) ≡ length ws)
      (λ _. let all = case_backward s w [] cs high h in omega (arith, all)) (λ _. case_forward s w cs high h)

  case_each : (s w : Place) (cs : List Counted) → Flow s w cs
      → length (filter_map (case_at options) cs) ≡ cond (is_at_least options.strength Secondary) (length (secondaries_of collation cs)) (length (filter_map (primary_at collation) cs))
  case_each s w cs h =
      cond_both (is_at_least options.strength Secondary) (length (secondaries_of collation cs)) (length (filter_map (primary_at collation) cs)) (λ n. length (filter_map (case_at options) cs) ≡ n)
      (λ high. case_second s w cs high h) (λ low. case_primary s w cs low h)

  characters_sound : (list : List ℕ) → AllByRecursion IsScalar list → AllByRecursion IsCharacter list
  characters_sound [] h = tt
  characters_sound (c ∷ cs) h = let scalar = h.0 in (grind (arith, nat_tests), characters_sound cs h.1)

  -- the levels of elements that stand at their places keep the rules that keys need
  abbrev pub stands_apart : ArePrimaries IsAt none_starts
  stands_apart = primaries_apart collation sound settings options

  abbrev IsPlaced : Place → QuaternaryPlace → Type 0
  IsPlaced = IsPlace IsAt next IsOutside none_starts stands_apart

  abbrev next_placed : Place → QuaternaryPlace → Place
  next_placed = next_place IsAt next IsOutside none_starts stands_apart

  quaternaries_sound : (s w : Place) (cs : List Counted) → Flow s w cs → AllFrom IsPlaced next_placed s (filter_map (quaternary_at collation) cs)
  quaternaries_sound s w [] h = tt
  quaternaries_sound s w (variable p ∷ cs) h = (h.1, quaternaries_sound (next s (collation.reordered p)) w cs h.2)
  quaternaries_sound s w (whole e ∷ cs) h =
      let later = quaternaries_sound s (whole_behind w e) cs h.3
      in from_option IsPlaced next_placed s e.tertiary (quaternary e.quaternary) (filter_map (quaternary_at collation) cs) (λ some. ((h.0, h.1.quaternary), later)) (λ none. later)

  abbrev pub AreSound : Levels → Type 0
  AreSound = AreLevelsInPlace options IsAt next IsOutside outside stands_apart
      (IsSecondaryWeight collation.weights sound) (secondaries_are collation.weights sound) (IsTertiaryWeight collation.weights sound) (tertiaries_are collation.weights sound)

  levels_by : (cs : List Counted) (list : List ℕ) → Flow outside outside cs → AllByRecursion IsScalar list
      → AreSound (record { primaries = filter_map (primary_at collation) cs; secondaries = secondaries_of collation cs; cases = filter_map (case_at options) cs; tertiaries = filter_map (tertiary_at options) cs; quaternaries = filter_map (quaternary_at collation) cs; characters = list })
  levels_by cs list h scalars =
      record {
        primaries = primaries_sound outside outside cs h;
        secondaries = secondaries_sound outside outside cs h;
        cases = cases_sound outside outside cs h;
        tertiaries = tertiaries_sound outside outside cs h;
        quaternaries = quaternaries_sound outside outside cs h;
        characters = characters_sound list scalars;
        case_each = case_each outside outside cs h;
        quaternary_each = λ n. quaternary_each outside outside cs n h;
        none_shifted = λ n. none_shifted outside outside cs n h;
      }

  pub levels_sound : (es : List Element) (list : List ℕ) → Reaches collation.weights sound numeric_on outside es outside → AllByRecursion IsScalar list → AreSound (levels_of collation options es list)
  unfolding levels_of
  levels_sound es list h scalars =
      levels_by (counted collation options es) list
      (subst (λ p. Flow p outside (counted collation options es)) (same_side numbers_vary) (subst (λ p. Flow (shifted_side numbers_vary outside) p (counted collation options es)) (same_whole numbers_vary) (counted_flow collation sound settings options outside false es h)))
      scalars
