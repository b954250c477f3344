-- The first index, found by halving.
use Rattle.std.proofs.Common.{◌≡◌, ℕ, ◌+◌, ◌-◌, ◌<◌, ◌≤◌, List, length, map, Option, Some, None, MatchOption, sym, subst, arith}
use Rattle.std.proofs.lemmas.List.{length-map}
use Rattle.collate_lines.specs.declared.record.Record.{Record as Line}
use Rattle.collate_lines.specs.Record.{said}
use Rattle.collate_rules.specs.Indices.{HoldsNowhere, IsFirstIndex, Stays, TellsFirstIndex}

module _ (Holds : ℕ → Type 0) where
  -- there is no index
  pub nowhere_of_none : (count : ℕ) → count ≡ 0 → TellsFirstIndex Holds count None
  nowhere_of_none count none stays i lt h = omega (arith, none, lt)

  -- it doesn't hold at the last index
  pub nowhere : (count : ℕ) → 0 < count → (Holds (count - 1) → ⊥) → TellsFirstIndex Holds count None
  nowhere count some last stays i lt h = last (stays i (count - 1) (omega (arith, some, lt)) h)

  -- it holds at no index below one
  abbrev pub NotBelow : ℕ → Type 0
  NotBelow low = Stays Holds → (j : ℕ) → j < low → Holds j → ⊥

  pub not_below_none : NotBelow 0
  not_below_none stays j lt h = omega (arith, lt)

  pub not_below_middle : (middle : ℕ) → (Holds middle → ⊥) → NotBelow (middle + 1)
  not_below_middle middle none stays j lt h = none (stays j middle (omega (arith, lt)) h)

  pub first_here : (count low high : ℕ) → high < count → high ≤ low → low ≤ high → Holds high → NotBelow low
      → TellsFirstIndex Holds count (Some low)
  first_here count low high inside past le here below stays =
      let same : high ≡ low = omega (arith, past, le) in
      (omega (arith, inside, le), subst Holds same here, below stays)

-- of lines as they were read
pub first_line : (Holds : ℕ → Type 0) (lines : List Line) (found : Option ℕ) → Stays Holds → TellsFirstIndex Holds (length lines) found
    → MatchOption found (HoldsNowhere Holds (length (map said lines))) (IsFirstIndex Holds (length (map said lines)))
first_line Holds lines found stays told =
    subst (λ (n : ℕ). MatchOption found (HoldsNowhere Holds n) (IsFirstIndex Holds n)) (sym (length-map lines said)) (told stays)
