-- How the bytes of keys are written in one pass: levels by the ranks of their weights, and primaries by the run that each
-- leaves after.
use Rattle.std.specs.Prelude.{◌≡◌, ℕ, ◌+◌, ◌-◌, ◌/◌, ◌^◌, ◌<◌, ◌≤◌, Bool, true, cond, not, ◌==◌, ◌&&◌, ltb, List, [], ◌∷◌, ◌++◌, Option, Some, None, drop, length}
use Rattle.std.specs.List.{cons_option, list_all}
use Rattle.icu_collator_core.specs.Collation.{Collation}
use Rattle.icu_collator_core.specs.WeightRules.{weight_bytes}
use Rattle.icu_collator.specs.KeyBytes.{RunCode, behind_run, codes_from, primary_code, primary_run, with_runs, secondary_code, lower_case_code, upper_case_code, tertiary_code, lower_first_code, upper_first_code, quaternary_code, shifted_bytes, was_compressible}
use Rattle.icu_collator.specs.LevelLists.{counted_list, primaries_by}
use Rattle.icu_collator.specs.Levels.{QuaternaryPlace, shifted, quaternary}
use Rattle.icu_collator.specs.declared.key_bytes.run_level.RunBytes.{RunBytes}
use Rattle.icu_collator.specs.declared.key_bytes.run_level.RunLevel.{RunLevel}
use Rattle.icu_collator.specs.declared.key_bytes.run_level.RunLevel.TheVariants.{Secondaries, LowerCases, UpperCases, Tertiaries, LowerFirst, UpperFirst, Quaternaries}

-- ## Primaries

-- the lead of a run is that of a primary that starts one
abbrev pub IsRun : (ℕ → Bool) → Option ℕ → Type 0
IsRun starts_run None = Unit {0}
IsRun starts_run (Some lead) = (p : ℕ) × (starts_run p ≡ true) × (p / 2 ^ 24 ≡ lead)

-- What an element gives was added to the primary level: whatever follows, the bytes stand for all so far, and this run
-- goes on.
pub record AddsPrimary (starts_run : ℕ → Bool) (given : Option ℕ) (run : Option ℕ) (before : List ℕ) (now : Option ℕ) (after : List ℕ) : Type 0 where
  pub level : (ps : List ℕ) → after ++ codes_from primary_code (primary_run starts_run) now ps
      ≡ before ++ codes_from primary_code (primary_run starts_run) run (cons_option given ps)
  pub goes_on : IsRun starts_run now

-- What the elements from one place up to another give was added to the primary level, and the run before it is there after it.
pub record IsWrittenUpTo (collation : Collation) (end : ℕ) (items : List ℕ) (run : Option ℕ) (from : ℕ) (before : List ℕ) (behind : ℕ) (after : List ℕ) : Type 0 where
  pub onward : from ≤ behind
  pub level : after ++ codes_from primary_code (primary_run (was_compressible collation)) run (primaries_by collation (counted_list end (drop behind items)))
      ≡ before ++ codes_from primary_code (primary_run (was_compressible collation)) run (primaries_by collation (counted_list end (drop from items)))

-- What the elements from one place up to another give was added to the primary level after a run, and this run is there after it.
pub record IsWrittenOn (collation : Collation) (end : ℕ) (items : List ℕ) (run : Option ℕ) (from : ℕ) (before : List ℕ) (now : Option ℕ) (behind : ℕ) (after : List ℕ) : Type 0 where
  pub within : behind ≤ length items
  pub goes_on : IsRun (was_compressible collation) now
  pub level : after ++ codes_from primary_code (primary_run (was_compressible collation)) now (primaries_by collation (counted_list end (drop behind items)))
      ≡ before ++ codes_from primary_code (primary_run (was_compressible collation)) run (primaries_by collation (counted_list end (drop from items)))

-- ## Runs

-- a code of weights as one of their ranks, with the bytes of a rank
abbrev pub by_rank : {W : Type 0} → RunCode W → (ℕ → List ℕ) → RunCode ℕ
by_rank code bytes =
    record { rank = λ r. r; common = code.common; most = code.most; low = code.low; middle = code.middle; high = code.high; bytes = bytes }

abbrev pub secondary_rank_bytes : ℕ → List ℕ
secondary_rank_bytes r = cond (r == 0) (0x02 ∷ []) (weight_bytes (r - 1))

abbrev pub quaternary_rank_bytes : ℕ → List ℕ
quaternary_rank_bytes r = cond (ltb r (2 ^ 32)) (shifted_bytes r) ((0xfc + (r - 2 ^ 32)) ∷ [])

-- whether a shifted primary has 32 bits, so that its rank is below those of all quaternaries
abbrev pub is_small_place : QuaternaryPlace → Bool
is_small_place (shifted p) = ltb p (2 ^ 32)
is_small_place (quaternary q) = true

-- the same of what an element gives, if it gives something
abbrev pub gives_small_place : Option QuaternaryPlace → Bool
gives_small_place None = true
gives_small_place (Some place) = is_small_place place

-- how the ranks of a level are written
unfoldable pub code_of : RunLevel → RunCode ℕ
code_of Secondaries = by_rank secondary_code secondary_rank_bytes
code_of LowerCases = lower_case_code
code_of UpperCases = upper_case_code
code_of Tertiaries = tertiary_code
code_of LowerFirst = lower_first_code
code_of UpperFirst = upper_first_code
code_of Quaternaries = by_rank quaternary_code quaternary_rank_bytes

-- all ranks of a level are below this one
unfoldable pub rank_limit : RunLevel → ℕ
rank_limit Secondaries = 2 ^ 16 + 1
rank_limit LowerCases = 3
rank_limit UpperCases = 3
rank_limit Tertiaries = 0x4000
rank_limit LowerFirst = 0xc000
rank_limit UpperFirst = 2 ^ 16
rank_limit Quaternaries = 2 ^ 32 + 4

-- the bytes of a code's runs, which are bytes
pub record HasRunBytes (code : RunCode ℕ) (bytes : RunBytes) : Type 0 where
  pub low : bytes.low ≡ code.low
  pub middle : bytes.middle ≡ code.middle
  pub high : bytes.high ≡ code.high
  pub most : bytes.most ≡ code.most
  pub some : 0 < bytes.most
  pub low_fits : bytes.low + bytes.most ≤ 256
  pub high_fits : bytes.most ≤ bytes.high

-- a weight was added to a level: whatever follows, the bytes and the common weights not written yet stand for all so far
pub record AddsWeight (code : RunCode ℕ) (weight : ℕ) (pending : ℕ) (before : List ℕ) (now : ℕ) (after : List ℕ) : Type 0 where
  pub level : (ws : List ℕ) → after ++ behind_run code now ws ≡ before ++ behind_run code pending (weight ∷ ws)
  pub count : now ≤ pending + 1

-- the same of what an element gives at the level, if it gives something
pub record AddsGiven (code : RunCode ℕ) (given : Option ℕ) (pending : ℕ) (before : List ℕ) (now : ℕ) (after : List ℕ) : Type 0 where
  pub level : (ws : List ℕ) → after ++ behind_run code now ws ≡ before ++ behind_run code pending (cons_option given ws)
  pub count : now ≤ pending + 1

-- ## Levels that are left out in part

-- the half bytes of cases; lower case alone isn't written
abbrev pub halves_of : Bool → List ℕ → List ℕ
halves_of is_upper_first cases =
    let upper = with_runs upper_case_code cases
    in let lower = cond (list_all (λ c. c == 0) cases) [] (with_runs lower_case_code cases)
    in cond is_upper_first upper lower

-- the quaternary level, by the ranks of its places
abbrev pub quaternaries_by_rank : Bool → List ℕ → List ℕ
quaternaries_by_rank is_shifted ranks =
    let written = with_runs (code_of Quaternaries) ranks
    in cond (not is_shifted && list_all (λ r. r == 2 ^ 32) ranks) [] written
