-- How many characters full lists take, beside the words that state them.
use Rattle.std.specs.Prelude.{ℕ, ◌≤◌, Bool, false, cond, ltb, List, [], ◌∷◌, All, length, nat_eq, sum_by}
use Rattle.std.specs.List.{IsDistinct, list_any}
use Rattle.icu_normalizer_core.specs.BuiltIn.{is_within}
use Rattle.icu_normalizer_core.specs.Named.{block_count, narrow_block, wide_block}

-- one character below U+10000, which needs no list
abbrev pub is_stated : List ℕ → Bool
is_stated (d ∷ []) = is_within 2 0xffff d
is_stated _ = false

-- How many characters the full list of a mapping takes at most: eight where steps lead on from one that it maps to, else
-- those that it maps to, or none.
abbrev pub list_room : (ℕ → List ℕ) → List ℕ → ℕ
list_room step ds = cond (list_any (λ d. ltb 0 (length (step d))) ds) 8 (cond (is_stated ds) 0 (length ds))

-- What tables have room for: the aligned blocks in which characters are named, and the lists of those that are mapped.
pub record HasRoom (step : ℕ → List ℕ) (IsMapped : ℕ → Type 0) (names : List ℕ) : Type 0 where
  pub wide : block_count wide_block names ≤ 700
  pub narrow : block_count narrow_block names ≤ 11000
  pub lists : (cs : List ℕ) → IsDistinct nat_eq cs → All IsMapped cs → sum_by (λ c. list_room step (step c)) cs ≤ 16000
