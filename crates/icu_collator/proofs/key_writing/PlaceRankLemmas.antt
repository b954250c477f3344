-- A level written by the ranks of its places is the level of its places.
use Rattle.std.proofs.Common.{◌≡◌, ℕ, zero, suc, ◌+◌, ◌-◌, ◌^◌, Bool, true, false, ◌==◌, ltb, List, [], ◌∷◌, ◌++◌, map, refl, sym, ◌∙◌, ap, arith}
use Rattle.std.proofs.lemmas.Bool.Decides.{nat_tests}
use Rattle.std.proofs.lemmas.List.Folds.{list_all-map}
use Rattle.std.specs.List.{list_all, AllByRecursion}
use Rattle.icu_collator_types.specs.declared.options.ResolvedCollatorOptions.{ResolvedCollatorOptions}
use Rattle.icu_collator_types.specs.Options.{is_shifted}
use Rattle.icu_collator.specs.KeyBytes.{RunCode, behind_run, run_bytes, with_runs, secondary_bytes, secondary_code, quaternary_bytes, quaternary_code, quaternary_level}
use Rattle.icu_collator.specs.KeyCodes.{by_rank, code_of, is_small_place, quaternary_rank_bytes, quaternaries_by_rank, secondary_rank_bytes}
use Rattle.icu_collator.specs.Levels.{SecondaryPlace, segment_end, secondary, QuaternaryPlace, shifted, quaternary}
use Rattle.icu_collator.specs.Order.{secondary_rank, quaternary_rank}
use Rattle.icu_collator.specs.declared.key_bytes.run_level.RunLevel.TheVariants.{Secondaries, Quaternaries}
use Rattle.icu_collator.proofs.keys.CommonAloneLemmas.{and_true}
use Rattle.icu_collator.proofs.keys.CodesLemmas.{three_ways}
use Rattle.icu_collator.proofs.keys.RunCodeLemmas.{goes_lower, goes_common, goes_higher}

-- runs don't depend on how other weights are written
same_runs : {W : Type 0} (code : RunCode W) (bytes : ℕ → List ℕ) (b : Bool) (n : ℕ) → run_bytes (by_rank code bytes) b n ≡ run_bytes code b n
unfolding run_bytes
same_runs code bytes b zero = refl
same_runs code bytes b (suc n) = refl

module _ {W : Type 0} (code : RunCode W) (bytes : ℕ → List ℕ) (IsOne : W → Type 0) (same : (w : W) → IsOne w → bytes (code.rank w) ≡ code.bytes w) where
  -- weights after common ones, by their ranks
  pub ranked_behind : (n : ℕ) (ws : List W) → AllByRecursion IsOne ws → behind_run (by_rank code bytes) n (map code.rank ws) ≡ behind_run code n ws
  unfolding behind_run
  ranked_behind n [] ones = same_runs code bytes false n
  ranked_behind n (w ∷ ws) ones =
      let later = behind_run (by_rank code bytes) 0 (map code.rank ws) in
      let weight : bytes (code.rank w) ++ later ≡ code.bytes w ++ behind_run code 0 ws =
      ap (λ l. l ++ later) (same w ones.0) ∙ ap (λ l. code.bytes w ++ l) (ranked_behind 0 ws ones.1) in
      three_ways (code.rank w) code.common
      (λ h. goes_lower (by_rank code bytes) n (code.rank w) (map code.rank ws) h
      ∙ ap (λ l. l ++ (bytes (code.rank w) ++ later)) (same_runs code bytes false n) ∙ ap (λ l. run_bytes code false n ++ l) weight ∙ sym (goes_lower code n w ws h))
      (λ h. goes_common (by_rank code bytes) n (code.rank w) (map code.rank ws) h ∙ ranked_behind (suc n) ws ones.1 ∙ sym (goes_common code n w ws h))
      (λ h. goes_higher (by_rank code bytes) n (code.rank w) (map code.rank ws) h
      ∙ ap (λ l. l ++ (bytes (code.rank w) ++ later)) (same_runs code bytes true n) ∙ ap (λ l. run_bytes code true n ++ l) weight ∙ sym (goes_higher code n w ws h))

IsAny : SecondaryPlace → Type 0
IsAny place = Unit {0}

all_any : (places : List SecondaryPlace) → AllByRecursion IsAny places
unfolding IsAny
all_any [] = tt
all_any (place ∷ places) = (tt, all_any places)

secondary_same : (place : SecondaryPlace) → IsAny place → secondary_rank_bytes (secondary_rank place) ≡ secondary_bytes place
secondary_same segment_end one = refl
secondary_same (secondary w) one =
    let some : (w + 1 == 0) ≡ false = grind (arith, nat_tests) in
    let back : w + 1 - 1 ≡ w = omega arith in
    rw (some, back) refl

pub secondaries_ranked : (places : List SecondaryPlace) → with_runs (code_of Secondaries) (map secondary_rank places) ≡ with_runs secondary_code places
unfolding code_of
secondaries_ranked places = ranked_behind secondary_code secondary_rank_bytes IsAny secondary_same 0 places (all_any places)

IsSmall : QuaternaryPlace → Type 0
IsSmall place = is_small_place place ≡ true

all_small : (places : List QuaternaryPlace) → list_all is_small_place places ≡ true → AllByRecursion IsSmall places
unfolding IsSmall
all_small [] all = tt
all_small (place ∷ places) all =
    let both = and_true (is_small_place place) (list_all is_small_place places) all in (both.0, all_small places both.1)

quaternary_same : (place : QuaternaryPlace) → IsSmall place → quaternary_rank_bytes (quaternary_rank place) ≡ quaternary_bytes place
unfolding IsSmall
quaternary_same (shifted p) small = rw small refl
quaternary_same (quaternary q) small =
    let above : ltb (2 ^ 32 + q) (2 ^ 32) ≡ false = grind (arith, nat_tests) in
    let back : 2 ^ 32 + q - 2 ^ 32 ≡ q = omega arith in
    rw (above, back) refl

pub quaternaries_ranked :
    (places : List QuaternaryPlace) → list_all is_small_place places ≡ true → with_runs (code_of Quaternaries) (map quaternary_rank places) ≡ with_runs quaternary_code places
unfolding code_of
quaternaries_ranked places all =
    ranked_behind quaternary_code quaternary_rank_bytes IsSmall quaternary_same 0 places (all_small places all)

-- the whole quaternary level
pub quaternary_level_ranked :
    (options : ResolvedCollatorOptions) (places : List QuaternaryPlace) → list_all is_small_place places ≡ true
    → quaternaries_by_rank (is_shifted options.alternate_handling) (map quaternary_rank places) ≡ quaternary_level options places
quaternary_level_ranked options places all =
    let common = list_all-map (λ r. r == 2 ^ 32) quaternary_rank places in
    rw (common, quaternaries_ranked places all) refl
