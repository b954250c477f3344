-- What two files say differently, noted of their lines.
use Rattle.std.specs.Prelude.{◌≡◌, ◌≢◌, ℕ, true, false, All, List, ◌∷◌}
use Rattle.std.specs.BTreeSet.{BTreeSet, contains}
use Rattle.std.specs.Ordering.{nat_cmp}
use Rattle.collate_lines.specs.Record.{Record}
use Rattle.collate_rules.specs.Meaning.{recorded_in}
use Rattle.collate_records.specs.Changes.{GivesSame}

-- what the lines of two files say, of one and of the one that comes after it
pub record TwoFiles : Type 0 where
  pub before : List Record
  pub after : List Record

-- both files record the same of each text that begins with a character
abbrev pub AreRecordedAlike : List Record → List Record → ℕ → Type 0
AreRecordedAlike a b c = (prefix rest : List ℕ) → recorded_in a prefix (c ∷ rest) ≡ recorded_in b prefix (c ∷ rest)

-- a line's text begins with a character, and the files record it otherwise; of no other character the line tells so
pub record DiffersAlone (a b : List Record) (line : Record) (c : ℕ) : Type 0 where
  pub here : GivesSame a b c line → ⊥
  pub others : (d : ℕ) → d ≢ c → GivesSame a b d line

-- A set has the characters with which texts of some lines begin that the files record otherwise, and only such as begin
-- some text that they do.
pub record AreDiffering (a b lines : List Record) (differing : BTreeSet ℕ) : Type 0 where
  pub others : (c : ℕ) → contains nat_cmp differing c ≡ false → All (GivesSame a b c) lines
  pub those : (c : ℕ) → contains nat_cmp differing c ≡ true → AreRecordedAlike a b c → ⊥
