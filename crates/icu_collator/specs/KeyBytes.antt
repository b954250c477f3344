-- The key of a text: bytes that order as the text's levels do. The shape is ICU4X's, the numbers are this project's own.
use Rattle.std.specs.Prelude.{ℕ, zero, suc, ◌+◌, ◌-◌, ◌*◌, ◌/◌, ◌%◌, ◌^◌, Bool, true, false, cond, not, ◌==◌, ◌&&◌, leb, ltb, List, [], ◌∷◌, ◌++◌, replicate, Option, Some, None}
use Rattle.std.specs.List.{list_all, list_any, range_with_len}
use Rattle.std.specs.Ordering.{nat_cmp}
use Rattle.std.specs.declared.cmp.Ordering.TheVariants.{Less, Equal, Greater}
use Rattle.icu_normalizer_core.specs.BuiltIn.{is_within}
use Rattle.icu_collator_types.specs.declared.options.Strength.TheVariants.{Secondary, Tertiary, Quaternary, Identical}
use Rattle.icu_collator_types.specs.declared.options.ResolvedCollatorOptions.{ResolvedCollatorOptions}
use Rattle.icu_collator_types.specs.Options.{has_case_bits, has_case_level, is_at_least, is_shifted, is_upper_first}
use Rattle.icu_collator_core.specs.WeightRules.{primary_rest, primary_bytes, weight_bytes}
use Rattle.icu_collator_core.specs.Collation.{Collation, with_lead}
use Rattle.icu_collator.specs.Levels.{Levels, SecondaryPlace, segment_end, secondary, QuaternaryPlace, shifted, quaternary, levels_of_text}
use Rattle.icu_collator.specs.Order.{secondary_rank, quaternary_rank}

-- items written one after another, each in the state that those before it leave
unfoldable pub codes_from : {S W : Type 0} → (S → W → List ℕ) → (S → W → S) → S → List W → List ℕ
codes_from code next s [] = []
codes_from code next s (w ∷ ws) = code s w ++ codes_from code next (next s w) ws

-- Primaries. What ends a run of primaries with one compressible lead before a primary with another lead: a byte below or
-- above all that may stand second. Before U+FFFE there is none, for its lead is below them itself.
abbrev pub run_end : ℕ → ℕ → List ℕ
run_end before lead = cond (ltb before lead) (0xff ∷ []) (cond (lead == 0x02) [] (0x03 ∷ []))

-- a primary after no run, or after a run of primaries with a compressible lead, which isn't written again
unfoldable pub primary_code : Option ℕ → ℕ → List ℕ
primary_code None p = primary_bytes p
primary_code (Some before) p =
    let lead = p / 2 ^ 24 in cond (lead == before) (primary_rest p) (run_end before lead ++ primary_bytes p)

-- whether a primary had a compressible lead before it was reordered: one with such a lead, and the same rest, is moved to it
abbrev pub was_compressible : Collation → ℕ → Bool
was_compressible collation p =
    list_any (λ lead. collation.weights.is_compressible lead && (collation.reordered (with_lead (λ own. lead) p) == p))
    (range_with_len 0 (2 ^ 8))

-- the lead of the run after a primary
abbrev pub primary_run : (ℕ → Bool) → Option ℕ → ℕ → Option ℕ
primary_run starts_run run p = cond (starts_run p) (Some (p / 2 ^ 24)) None

-- the primary level; which lead is left out, the leads before reordering say
abbrev pub primary_level : Collation → List ℕ → List ℕ
primary_level collation primaries = codes_from primary_code (primary_run (was_compressible collation)) None primaries

-- How a level is written whose most frequent weight, the common one, is written short in runs.
pub record RunCode (W : Type 0) : Type 0 where
  -- weights compare by their ranks
  pub rank : W → ℕ
  -- the rank of the common weight
  pub common : ℕ
  -- how many common weights a middle byte stands for
  pub most : ℕ
  -- the last byte of a run, from low up before a lower weight and at the end, from high down before a higher weight
  pub low : ℕ
  pub middle : ℕ
  pub high : ℕ
  -- the bytes of any other weight
  pub bytes : W → List ℕ

-- n common weights: a middle byte for as many as it stands for, but the last byte says how many more there are
unfoldable pub run_bytes : {W : Type 0} → RunCode W → Bool → ℕ → List ℕ
run_bytes code is_below_next zero = []
run_bytes code is_below_next (suc n) =
    let last = cond is_below_next (code.high - n % code.most) (code.low + n % code.most)
    in replicate (n / code.most) code.middle ++ last ∷ []

-- weights after n common ones that aren't written yet
unfoldable pub behind_run : {W : Type 0} → RunCode W → ℕ → List W → List ℕ
behind_run code n [] = run_bytes code false n
behind_run code n (w ∷ ws) =
    let longer = behind_run code (suc n) ws
    in let later = code.bytes w ++ behind_run code 0 ws
    in elim (nat_cmp (code.rank w) code.common) [
      | Less ↦ run_bytes code false n ++ later
      | Equal ↦ longer
      | Greater ↦ run_bytes code true n ++ later
    ]

-- a level whose runs of the common weight are written short
abbrev pub with_runs : {W : Type 0} → RunCode W → List W → List ℕ
with_runs code ws = behind_run code 0 ws

-- Secondaries: each weight as it is, and the end of a segment below them.
abbrev pub secondary_bytes : SecondaryPlace → List ℕ
secondary_bytes segment_end = 0x02 ∷ []
secondary_bytes (secondary w) = weight_bytes w

abbrev pub secondary_code : RunCode SecondaryPlace
secondary_code =
    record { rank = secondary_rank; common = secondary_rank (secondary 0x500); most = 33; low = 0x05; middle = 0x25; high = 0x45; bytes = secondary_bytes }

-- Cases, in half bytes. Where lower case or none comes first, case 0 is common, and mixed and upper case are above.
abbrev pub lower_case_code : RunCode ℕ
lower_case_code = record { rank = λ c. c; common = 0; most = 7; low = 1; middle = 7; high = 13; bytes = λ c. (13 + c) ∷ [] }

-- Where upper case comes first, it is 0 at its level, mixed case 1, and the common case 2 is the highest.
abbrev pub upper_case_code : RunCode ℕ
upper_case_code = record { rank = λ c. c; common = 2; most = 13; low = 3; middle = 15; high = 27; bytes = λ c. (1 + c) ∷ [] }

-- the half bytes of the case level; lower case alone isn't written
abbrev pub case_halves : ResolvedCollatorOptions → List ℕ → List ℕ
case_halves options cases =
    let upper = with_runs upper_case_code cases
    in let lower = cond (list_all (λ c. c == 0) cases) [] (with_runs lower_case_code cases)
    in cond (is_upper_first options.case_first) upper lower

-- half bytes in pairs, the upper half first; a last odd one stands with 0
unfoldable pub paired_halves : List ℕ → List ℕ
paired_halves [] = []
paired_halves (a ∷ []) = a * 16 ∷ []
paired_halves (a ∷ b ∷ halves) = (a * 16 + b) ∷ paired_halves halves

-- Tertiaries. Without case bits, or below those of lower case first, weights above the common one are moved up, so that
-- the bytes of runs are free.
abbrev pub tertiary_code : RunCode ℕ
tertiary_code =
    record { rank = λ w. w; common = 0x500; most = 97; low = 0x05; middle = 0x65; high = 0xc5; bytes = λ w. weight_bytes (cond (ltb 0x500 w) (w + 0xc000) w) }

abbrev pub lower_first_code : RunCode ℕ
lower_first_code =
    record { rank = λ w. w; common = 0x500; most = 33; low = 0x05; middle = 0x25; high = 0x45; bytes = λ w. weight_bytes (cond (ltb 0x500 w) (w + 0x4000) w) }

-- with upper first the weights below the common one are moved down
abbrev pub upper_first_code : RunCode ℕ
upper_first_code =
    record { rank = λ w. w; common = 0xc500; most = 33; low = 0x85; middle = 0xa5; high = 0xc5; bytes = λ w. weight_bytes (cond (ltb w 0xc500) (w - 0x4000) w) }

-- how tertiaries are written
abbrev pub tertiary_code_of : ResolvedCollatorOptions → RunCode ℕ
tertiary_code_of options =
    cond (has_case_bits options) (cond (is_upper_first options.case_first) upper_first_code lower_first_code) tertiary_code

-- Quaternaries: a shifted primary with a byte before it where its lead is among the bytes of runs, or above.
abbrev pub shifted_bytes : ℕ → List ℕ
shifted_bytes p = cond (ltb (p / 2 ^ 24) 0x1b) (primary_bytes p) (0x1b ∷ primary_bytes p)

abbrev pub quaternary_bytes : QuaternaryPlace → List ℕ
quaternary_bytes (shifted p) = shifted_bytes p
quaternary_bytes (quaternary q) = (0xfc + q) ∷ []

abbrev pub quaternary_code : RunCode QuaternaryPlace
quaternary_code =
    record { rank = quaternary_rank; common = quaternary_rank (quaternary 0); most = 113; low = 0x1c; middle = 0x8c; high = 0xfc; bytes = quaternary_bytes }

-- the quaternary level; where nothing can be shifted, common weights alone aren't written
abbrev pub quaternary_level : ResolvedCollatorOptions → List QuaternaryPlace → List ℕ
quaternary_level options places =
    let written = with_runs quaternary_code places
    in let are_common = list_all (λ place. quaternary_rank place == quaternary_code.common) places
    in cond (not (is_shifted options.alternate_handling) && are_common) [] written

-- Characters. Where the character after another is expected: near the middle of that one's block, and after an ideograph
-- where two bytes reach all ideographs.
abbrev pub expected_near : ℕ → ℕ
expected_near last = cond (is_within 0x4e00 0x9fff last) (0x9fff - 10667) (last / 128 * 128 + 80)

-- base and the difference c - p divided by n, which is rounded down
abbrev pub moved_by : ℕ → ℕ → ℕ → ℕ → ℕ
moved_by base n p c = (base * n + c - p) / n

-- a byte of the difference c - p in base 253, that of the digit n
abbrev pub difference_digit : ℕ → ℕ → ℕ → ℕ
difference_digit n p c = 3 + moved_by (253 ^ 3) n p c % 253

-- the difference c - p of two characters: the nearer they are, the fewer bytes it has, and it rises with c
unfoldable pub difference_bytes : ℕ → ℕ → List ℕ
difference_bytes p c =
    let one = difference_digit 1 p c ∷ []
    in let two = difference_digit 253 p c ∷ one
    in let three = difference_digit 64009 p c ∷ two
    in cond (ltb (c + 192786) p) (0x03 ∷ three)
    (cond (ltb (c + 10668) p) (moved_by 7 64009 p c ∷ two)
    (cond (ltb (c + 80) p) (moved_by 49 253 p c ∷ one)
    (cond (leb c (p + 80)) (moved_by 129 1 p c ∷ [])
    (cond (leb c (p + 10667)) (moved_by 210 253 p c ∷ one)
    (cond (leb c (p + 192785)) (moved_by 252 64009 p c ∷ two)
    (0xff ∷ three))))))

-- a character after another; U+FFFE is below all, and what follows it is written as if after U+0000
abbrev pub character_code : ℕ → ℕ → List ℕ
character_code last c = cond (c == 0xfffe) (0x02 ∷ []) (difference_bytes (expected_near last) c)

abbrev pub last_character : ℕ → ℕ → ℕ
last_character last c = cond (c == 0xfffe) 0 c

-- the identical level
abbrev pub character_level : List ℕ → List ℕ
character_level characters = codes_from character_code last_character 0 characters

-- a level that is in force, after what separates it from the one before
abbrev pub level_bytes : Bool → List ℕ → List ℕ
level_bytes is_in_force bytes = cond is_in_force (0x01 ∷ bytes) []

-- the key of levels
unfoldable pub key_bytes : Collation → ResolvedCollatorOptions → Levels → List ℕ
key_bytes collation options levels =
    primary_level collation levels.primaries
    ++ level_bytes (is_at_least options.strength Secondary) (with_runs secondary_code levels.secondaries ++ 0x01 ∷ [])
    ++ level_bytes (has_case_level options.case_level) (paired_halves (case_halves options levels.cases))
    ++ level_bytes (is_at_least options.strength Tertiary) (with_runs (tertiary_code_of options) levels.tertiaries ++ 0x01 ∷ [])
    ++ level_bytes (is_at_least options.strength Quaternary) (quaternary_level options levels.quaternaries ++ 0x01 ∷ [])
    ++ level_bytes (is_at_least options.strength Identical) (character_level levels.characters)

-- the key of a text, given as characters
abbrev pub key_of_text : Collation → ResolvedCollatorOptions → List ℕ → List ℕ
key_of_text collation options text = key_bytes collation options (levels_of_text collation options text)
