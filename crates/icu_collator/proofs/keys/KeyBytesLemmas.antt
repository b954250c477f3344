-- Keys of levels that keep the rules on weights order as the levels do.
use Rattle.std.proofs.Common.{◌≡◌, ℕ, ◌^◌, Bool, true, false, cond, List, [], ◌∷◌, ◌++◌, length, refl, sym, ◌∙◌, ap, arith, append_assoc}
use Rattle.std.proofs.lemmas.List.{append-nil}
use Rattle.std.proofs.lemmas.Bool.Decides.{nat_tests}
use Rattle.std.specs.Prelude.{not}
use Rattle.std.specs.Cmp.Lexicographic.{slice_cmp}
use Rattle.std.specs.List.{AllByRecursion}
use Rattle.std.specs.Ordering.{nat_cmp, ordering_then}
use Rattle.std.specs.declared.cmp.Ordering.{Ordering}
use Rattle.std.specs.declared.cmp.Ordering.TheVariants.{Less, Equal, Greater}
use Rattle.icu_collator_types.specs.declared.options.Strength.{Strength}
use Rattle.icu_collator_types.specs.declared.options.Strength.TheVariants.{Primary, Secondary, Tertiary, Quaternary, Identical}
use Rattle.icu_collator_types.specs.declared.options.ResolvedCollatorOptions.{ResolvedCollatorOptions}
use Rattle.icu_collator_types.specs.Options.{has_case_bits, has_case_level, is_at_least, is_shifted, is_upper_first}
use Rattle.icu_collator_core.specs.Collation.{Collation}
use Rattle.icu_collator_core.specs.WeightRules.{is_sound_secondary, is_sound_tertiary}
use Rattle.icu_collator.specs.Levels.{Levels}
use Rattle.icu_collator.specs.Order.{list_order, levels_order, where_in_force, secondary_rank, quaternary_rank, character_rank}
use Rattle.icu_collator.specs.KeyBytes.{key_bytes, level_bytes, primary_level, was_compressible, secondary_code, case_halves, paired_halves, tertiary_code_of, quaternary_level, character_level, with_runs}
use Rattle.icu_collator.proofs.keys.CodesLemmas.{BeginsUpTo, AllFrom, behind_same, then_equal}
use Rattle.icu_collator.proofs.keys.CommonAloneLemmas.{NoneBelow}
use Rattle.icu_collator.proofs.keys.WeightBytesLemmas.{AreWeights}
use Rattle.icu_collator.proofs.keys.CharacterLevelLemmas.{IsCharacter, character_level_order}
use Rattle.icu_collator.proofs.keys.PrimaryLevelLemmas.{ArePrimaries, none_starts, primary_level_order}
use Rattle.icu_collator.proofs.keys.SecondaryLevelLemmas.{IsSecondaryAt, past as past_secondary, secondary_level_order}
use Rattle.icu_collator.proofs.keys.CaseLevelLemmas.{IsCase, past as past_case, case_level_order}
use Rattle.icu_collator.proofs.keys.TertiaryLevelLemmas.{IsTertiaryAt, past as past_tertiary, tertiary_level_order}
use Rattle.icu_collator.proofs.keys.QuaternaryLevelLemmas.{IsPlace, next_place, quaternary_level_order}

then_only : (o p q : Ordering) → (o ≡ Equal → p ≡ q) → ordering_then o p ≡ ordering_then o q
then_only Less p q h = refl
then_only Equal p q h = h refl
then_only Greater p q h = refl

pub then_first : (o p : Ordering) → ordering_then o p ≡ Equal → o ≡ Equal
then_first Less p h = h
then_first Equal p h = refl
then_first Greater p h = h

then_second : (o p : Ordering) → ordering_then o p ≡ Equal → p ≡ Equal
then_second Less p h = let never : Less ≡ Equal = h in cc
then_second Equal p h = h
then_second Greater p h = let never : Greater ≡ Equal = h in cc

pub then_equal_first : (o p : Ordering) → o ≡ Equal → ordering_then o p ≡ p
then_equal_first Less p h = let never : Less ≡ Equal = h in cc
then_equal_first Equal p h = refl
then_equal_first Greater p h = let never : Greater ≡ Equal = h in cc

-- numbers that compare equal are the same
pub same_numbers : (xs ys : List ℕ) → slice_cmp nat_cmp xs ys ≡ Equal → xs ≡ ys
same_numbers [] [] h = refl
same_numbers [] (y ∷ ys) h = let never : Less ≡ Equal = h in cc
same_numbers (x ∷ xs) [] h = let never : Greater ≡ Equal = h in cc
same_numbers (x ∷ xs) (y ∷ ys) h =
    let first : nat_cmp x y ≡ Equal = then_first (nat_cmp x y) (slice_cmp nat_cmp xs ys) h
    in let same : x ≡ y = grind (arith, nat_tests)
    in let rest : xs ≡ ys = same_numbers xs ys (then_second (nat_cmp x y) (slice_cmp nat_cmp xs ys) h)
    in cc

regrouped : (p s c t q i : List ℕ) → ((((p ++ s) ++ c) ++ t) ++ q) ++ i ≡ p ++ (s ++ (c ++ (t ++ (q ++ i))))
regrouped p s c t q i =
    append_assoc ((((p ++ s) ++ c) ++ t)) q i ∙ append_assoc ((p ++ s) ++ c) t (q ++ i) ∙ append_assoc (p ++ s) c (t ++ (q ++ i)) ∙ append_assoc p s (c ++ (t ++ (q ++ i)))

-- lists that compare Equal are as long
equal_long : {W : Type 0} (rank : W → ℕ) (vs ws : List W) → list_order rank vs ws ≡ Equal → length vs ≡ length ws
equal_long rank [] [] h = refl
equal_long rank [] (w ∷ ws) h = let never : Less ≡ Equal = h in cc
equal_long rank (v ∷ vs) [] h = let never : Greater ≡ Equal = h in cc
equal_long rank (v ∷ vs) (w ∷ ws) h = let later = equal_long rank vs ws (then_second (nat_cmp (rank v) (rank w)) (list_order rank vs ws) h) in omega (arith, later)

in_force_equal : (b : Bool) (o : Ordering) → where_in_force b o ≡ Equal → b ≡ true → o ≡ Equal
in_force_equal true o h e = h
in_force_equal false o h e = let never : false ≡ true = e in cc

level_ends : (b : Bool) (us xs : List ℕ) → BeginsUpTo 1 xs → BeginsUpTo 1 (level_bytes b us ++ xs)
level_ends true us xs h = omega arith
level_ends false us xs h = h

-- a level that is closed by an end
ended_level :
    (b : Bool) (us ts xs ys : List ℕ) (o : Ordering) → (b ≡ true → slice_cmp nat_cmp (us ++ 0x01 ∷ xs) (ts ++ 0x01 ∷ ys) ≡ ordering_then o (slice_cmp nat_cmp (0x01 ∷ xs) (0x01 ∷ ys)))
    → slice_cmp nat_cmp (level_bytes b (us ++ 0x01 ∷ []) ++ xs) (level_bytes b (ts ++ 0x01 ∷ []) ++ ys) ≡ ordering_then (where_in_force b o) (slice_cmp nat_cmp xs ys)
ended_level false us ts xs ys o h = refl
ended_level true us ts xs ys o h = rw (append_assoc us (0x01 ∷ []) xs, append_assoc ts (0x01 ∷ []) ys) (h refl)

-- a level that ends with the key or before the next
open_level :
    (b : Bool) (us ts xs ys : List ℕ) (o : Ordering) → (b ≡ true → slice_cmp nat_cmp (us ++ xs) (ts ++ ys) ≡ ordering_then o (slice_cmp nat_cmp xs ys))
    → slice_cmp nat_cmp (level_bytes b us ++ xs) (level_bytes b ts ++ ys) ≡ ordering_then (where_in_force b o) (slice_cmp nat_cmp xs ys)
open_level false us ts xs ys o h = refl
open_level true us ts xs ys o h = h refl

quaternary_has_tertiary : (strength : Strength) → is_at_least strength Quaternary ≡ true → is_at_least strength Tertiary ≡ true
quaternary_has_tertiary Primary h = h
quaternary_has_tertiary Secondary h = h
quaternary_has_tertiary Tertiary h = refl
quaternary_has_tertiary Quaternary h = refl
quaternary_has_tertiary Identical h = refl

module _ (options : ResolvedCollatorOptions)
    {S : Type 0} (IsPrimary : S → ℕ → Type 0) (nextp : S → ℕ → S) (IsOutside : S → Type 0) (start : S)
    (primaries_are : ArePrimaries IsPrimary none_starts)
    (IsSecondaryWeight : ℕ → Type 0) (secondaries_are : AreWeights is_sound_secondary IsSecondaryWeight)
    (IsTertiaryWeight : ℕ → Type 0) (tertiaries_are : AreWeights is_sound_tertiary IsTertiaryWeight)
  where
    -- levels whose weights stand where they may
    pub record AreLevelsInPlace (levels : Levels) : Type 0 where
      pub primaries : AllFrom IsPrimary nextp start levels.primaries
      pub secondaries : AllFrom (IsSecondaryAt IsSecondaryWeight secondaries_are) (past_secondary IsSecondaryWeight secondaries_are) tt levels.secondaries
      pub cases : AllFrom IsCase past_case tt levels.cases
      pub tertiaries :
          AllFrom (IsTertiaryAt IsTertiaryWeight tertiaries_are (has_case_bits options) (is_upper_first options.case_first)) (past_tertiary IsTertiaryWeight tertiaries_are) tt levels.tertiaries
      pub quaternaries :
          AllFrom (IsPlace IsPrimary nextp IsOutside none_starts primaries_are) (next_place IsPrimary nextp IsOutside none_starts primaries_are) start levels.quaternaries
      pub characters : AllByRecursion IsCharacter levels.characters
      -- a case for each secondary, and at Primary for each primary
      pub case_each : length levels.cases ≡ cond (is_at_least options.strength Secondary) (length levels.secondaries) (length levels.primaries)
      -- where nothing can be shifted, a quaternary for each tertiary
      pub quaternary_each : not (is_shifted options.alternate_handling) ≡ true → length levels.quaternaries ≡ length levels.tertiaries
      pub none_shifted : not (is_shifted options.alternate_handling) ≡ true → NoneBelow quaternary_rank (2 ^ 32) levels.quaternaries

    cases_long : (a b : Levels) (is_secondary : Bool) → length a.cases ≡ cond is_secondary (length a.secondaries) (length a.primaries) → length b.cases ≡ cond is_secondary (length b.secondaries) (length b.primaries)
        → list_order (λ p. p) a.primaries b.primaries ≡ Equal → where_in_force is_secondary (list_order secondary_rank a.secondaries b.secondaries) ≡ Equal → length a.cases ≡ length b.cases
    cases_long a b true ea eb p s = ea ∙ equal_long secondary_rank a.secondaries b.secondaries s ∙ sym eb
    cases_long a b false ea eb p s = ea ∙ equal_long (λ p. p) a.primaries b.primaries p ∙ sym eb

    -- the key from each level on
    abbrev from_characters : Levels → List ℕ
    from_characters a = level_bytes (is_at_least options.strength Identical) (character_level a.characters)

    abbrev from_quaternaries : Levels → List ℕ
    from_quaternaries a = level_bytes (is_at_least options.strength Quaternary) (quaternary_level options a.quaternaries ++ 0x01 ∷ []) ++ from_characters a

    abbrev from_tertiaries : Levels → List ℕ
    from_tertiaries a = level_bytes (is_at_least options.strength Tertiary) (with_runs (tertiary_code_of options) a.tertiaries ++ 0x01 ∷ []) ++ from_quaternaries a

    abbrev from_cases : Levels → List ℕ
    from_cases a = level_bytes (has_case_level options.case_level) (paired_halves (case_halves options a.cases)) ++ from_tertiaries a

    abbrev from_secondaries : Levels → List ℕ
    from_secondaries a = level_bytes (is_at_least options.strength Secondary) (with_runs secondary_code a.secondaries ++ 0x01 ∷ []) ++ from_cases a

    characters_end : (a : Levels) → BeginsUpTo 1 (from_characters a)
    characters_end a = rw (sym (append-nil (from_characters a))) (level_ends (is_at_least options.strength Identical) (character_level a.characters) [] tt)

    quaternaries_end : (a : Levels) → BeginsUpTo 1 (from_quaternaries a)
    quaternaries_end a = level_ends (is_at_least options.strength Quaternary) _ _ (characters_end a)

    tertiaries_end : (a : Levels) → BeginsUpTo 1 (from_tertiaries a)
    tertiaries_end a = level_ends (is_at_least options.strength Tertiary) _ _ (quaternaries_end a)

    cases_end : (a : Levels) → BeginsUpTo 1 (from_cases a)
    cases_end a = level_ends (has_case_level options.case_level) _ _ (tertiaries_end a)

    secondaries_end : (a : Levels) → BeginsUpTo 1 (from_secondaries a)
    secondaries_end a = level_ends (is_at_least options.strength Secondary) _ _ (cases_end a)

    module _ (a b : Levels) (sound_a : AreLevelsInPlace a) (sound_b : AreLevelsInPlace b) where
      abbrev by_primaries : Ordering
      by_primaries = list_order (λ p. p) a.primaries b.primaries

      abbrev by_secondaries : Ordering
      by_secondaries = where_in_force (is_at_least options.strength Secondary) (list_order secondary_rank a.secondaries b.secondaries)

      abbrev by_cases : Ordering
      by_cases = where_in_force (has_case_level options.case_level) (list_order (λ w. w) a.cases b.cases)

      abbrev by_tertiaries : Ordering
      by_tertiaries = where_in_force (is_at_least options.strength Tertiary) (list_order (λ w. w) a.tertiaries b.tertiaries)

      abbrev by_quaternaries : Ordering
      by_quaternaries = where_in_force (is_at_least options.strength Quaternary) (list_order quaternary_rank a.quaternaries b.quaternaries)

      abbrev by_characters : Ordering
      by_characters = where_in_force (is_at_least options.strength Identical) (list_order character_rank a.characters b.characters)

      characters_part : slice_cmp nat_cmp (from_characters a) (from_characters b) ≡ by_characters
      characters_part =
          let open_end : slice_cmp nat_cmp (from_characters a ++ []) (from_characters b ++ []) ≡ ordering_then by_characters Equal =
          open_level (is_at_least options.strength Identical) (character_level a.characters) (character_level b.characters) [] [] (list_order character_rank a.characters b.characters)
          (λ h. character_level_order a.characters b.characters [] [] sound_a.characters sound_b.characters tt tt) in
          (rw (append-nil (from_characters a), append-nil (from_characters b)) at open_end) ∙ then_equal by_characters

      plain_quaternaries : is_at_least options.strength Quaternary ≡ true → by_tertiaries ≡ Equal → not (is_shifted options.alternate_handling) ≡ true
          → (length a.quaternaries ≡ length b.quaternaries) × NoneBelow quaternary_rank (2 ^ 32) a.quaternaries × NoneBelow quaternary_rank (2 ^ 32) b.quaternaries
      plain_quaternaries force same plain =
          let equal : list_order (λ w. w) a.tertiaries b.tertiaries ≡ Equal = in_force_equal (is_at_least options.strength Tertiary) _ same (quaternary_has_tertiary options.strength force) in
          (sound_a.quaternary_each plain ∙ equal_long (λ w. w) a.tertiaries b.tertiaries equal ∙ sym (sound_b.quaternary_each plain), sound_a.none_shifted plain, sound_b.none_shifted plain)

      quaternaries_part : by_tertiaries ≡ Equal → slice_cmp nat_cmp (from_quaternaries a) (from_quaternaries b) ≡ ordering_then by_quaternaries by_characters
      quaternaries_part same =
          ended_level (is_at_least options.strength Quaternary) (quaternary_level options a.quaternaries) (quaternary_level options b.quaternaries) (from_characters a) (from_characters b) (list_order quaternary_rank a.quaternaries b.quaternaries)
          (λ force. quaternary_level_order IsPrimary nextp IsOutside none_starts primaries_are options start a.quaternaries b.quaternaries (0x01 ∷ from_characters a) (0x01 ∷ from_characters b)
          (plain_quaternaries force same) sound_a.quaternaries sound_b.quaternaries (omega arith) (omega arith))
          ∙ ap (ordering_then by_quaternaries) characters_part

      tertiaries_part : slice_cmp nat_cmp (from_tertiaries a) (from_tertiaries b) ≡ ordering_then by_tertiaries (ordering_then by_quaternaries by_characters)
      tertiaries_part =
          ended_level (is_at_least options.strength Tertiary) (with_runs (tertiary_code_of options) a.tertiaries) (with_runs (tertiary_code_of options) b.tertiaries) (from_quaternaries a) (from_quaternaries b) (list_order (λ w. w) a.tertiaries b.tertiaries)
          (λ force. tertiary_level_order IsTertiaryWeight tertiaries_are options a.tertiaries b.tertiaries (0x01 ∷ from_quaternaries a) (0x01 ∷ from_quaternaries b) sound_a.tertiaries sound_b.tertiaries (omega arith) (omega arith))
          ∙ then_only by_tertiaries _ _ quaternaries_part

      cases_part : by_primaries ≡ Equal → by_secondaries ≡ Equal → slice_cmp nat_cmp (from_cases a) (from_cases b) ≡ ordering_then by_cases (ordering_then by_tertiaries (ordering_then by_quaternaries by_characters))
      cases_part p s =
          open_level (has_case_level options.case_level) (paired_halves (case_halves options a.cases)) (paired_halves (case_halves options b.cases)) (from_tertiaries a) (from_tertiaries b) (list_order (λ w. w) a.cases b.cases)
          (λ force. case_level_order options a.cases b.cases (from_tertiaries a) (from_tertiaries b)
          (cases_long a b (is_at_least options.strength Secondary) sound_a.case_each sound_b.case_each p s) sound_a.cases sound_b.cases (tertiaries_end a) (tertiaries_end b))
          ∙ ap (ordering_then by_cases) tertiaries_part

      secondaries_part : by_primaries ≡ Equal → slice_cmp nat_cmp (from_secondaries a) (from_secondaries b) ≡ ordering_then by_secondaries (ordering_then by_cases (ordering_then by_tertiaries (ordering_then by_quaternaries by_characters)))
      secondaries_part p =
          ended_level (is_at_least options.strength Secondary) (with_runs secondary_code a.secondaries) (with_runs secondary_code b.secondaries) (from_cases a) (from_cases b) (list_order secondary_rank a.secondaries b.secondaries)
          (λ force. secondary_level_order IsSecondaryWeight secondaries_are a.secondaries b.secondaries (0x01 ∷ from_cases a) (0x01 ∷ from_cases b) sound_a.secondaries sound_b.secondaries (omega arith) (omega arith))
          ∙ then_only by_secondaries _ _ (cases_part p)

      key_parts : (collation : Collation) (c : Levels) → key_bytes collation options c ≡ primary_level collation c.primaries ++ from_secondaries c
      unfolding key_bytes
      key_parts collation c = regrouped (primary_level collation c.primaries) _ _ _ _ (from_characters c)

      -- Where the primaries are equal, keys order as the levels after them do, whatever leads are compressible.
      pub equal_primaries_order : (collation : Collation) → list_order (λ p. p) a.primaries b.primaries ≡ Equal → slice_cmp nat_cmp (key_bytes collation options a) (key_bytes collation options b) ≡ levels_order options a b
      unfolding levels_order
      equal_primaries_order collation same =
          let alike : a.primaries ≡ b.primaries = same_numbers a.primaries b.primaries same in
          rw (key_parts collation a, key_parts collation b)
          (ap (λ (ps : List ℕ). slice_cmp nat_cmp (primary_level collation ps ++ from_secondaries a) (primary_level collation b.primaries ++ from_secondaries b)) alike
          ∙ behind_same (primary_level collation b.primaries) (from_secondaries a) (from_secondaries b) ∙ secondaries_part same ∙ sym (then_equal_first by_primaries _ same))

      -- The keys of levels that keep the rules order as the levels do.
      pub level_keys_order : (collation : Collation) → ArePrimaries IsPrimary (was_compressible collation) → slice_cmp nat_cmp (key_bytes collation options a) (key_bytes collation options b) ≡ levels_order options a b
      unfolding levels_order
      level_keys_order collation compressed =
          rw (key_parts collation a, key_parts collation b)
          (primary_level_order IsPrimary nextp (was_compressible collation) compressed start a.primaries b.primaries (from_secondaries a) (from_secondaries b) sound_a.primaries sound_b.primaries (secondaries_end a) (secondaries_end b)
          ∙ then_only by_primaries _ _ secondaries_part)
