-- Characters below U+0300: that they are as they should be at each beginning of parts, and their full lists.
use Rattle.std.specs.Prelude.{◌≡◌, ◌⊎◌, ℕ, true, false, ◌+◌, zero, suc, List, [], ◌∷◌, ◌++◌, flat_map, map, take, Some}
use Rattle.icu_normalizer_core.specs.BuiltIn.{is_built_in}
use Rattle.icu_normalizer_core.specs.Canonical.{composed, marks_in_order}
use Rattle.collate_lines.specs.Record.{Record}
use Rattle.collate_rules.specs.declared.canonical_part.CanonicalPart.{CanonicalPart}
use Rattle.collate_rules.specs.CanonicalParts.{in_full}
use Rattle.collate_rules.specs.Meaning.{canonical_of, class_of, expanded, pair_of, step_of}
use Rattle.collate_rules.specs.PartMaps.{is_excluded}
use Rattle.collate_rules.specs.Rules.{HasBadLow, IsBadlyLow}

-- at each beginning of parts a character is its own composed list
abbrev pub IsAlwaysOwn : List CanonicalPart → ℕ → Type 0
IsAlwaysOwn parts c = (k : ℕ) → composed (canonical_of (map in_full (take k parts))) (c ∷ []) ≡ c ∷ []

-- at none is a character badly low
abbrev pub IsNeverBadlyLow : List CanonicalPart → ℕ → Type 0
IsNeverBadlyLow parts c = (k : ℕ) → IsBadlyLow (map in_full (take k parts)) c → ⊥

-- at none is there such a character
abbrev pub NeverHasBadLow : List CanonicalPart → Type 0
NeverHasBadLow parts = (k : ℕ) → HasBadLow (map in_full (take k parts)) → ⊥

-- Two characters, of which the second isn't mapped, compose to a character; and a line that maps that one first lets it be
-- composed, unless it is built in. So they compose to it once it is mapped to them.
pub record IsAlwaysPair (lines : List Record) (c first second : ℕ) : Type 0 where
  pub composes : pair_of lines first second ≡ Some c
  pub lets : (is_built_in c ≡ true) ⊎ (is_excluded lines c ≡ false)
  pub unmapped : step_of lines second ≡ []

-- what is left of characters that wait, each with how many steps may follow it
abbrev pub left_of : (ℕ → List ℕ) → List (ℕ × ℕ) → List ℕ
left_of step waiting = flat_map (λ w. expanded step w.1 w.0) waiting

-- A text is what is left of characters that wait, and after it a list; its marks are in order.
abbrev pub AreLeft : List Record → List ℕ → List (ℕ × ℕ) → List ℕ → Type 0
AreLeft lines text waiting list =
    (rest : List ℕ) × (list ≡ marks_in_order (class_of lines) rest) × (left_of (step_of lines) waiting ++ rest ≡ text)

-- how many turns a character takes at most which so many steps may follow, each to at most two characters
unfoldable pub turns : ℕ → ℕ
turns zero = 1
turns (suc n) = let after = turns n in suc (after + after)
