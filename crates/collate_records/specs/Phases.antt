-- The phases in which a records file is read: its lines one by one, and then one rule after another. Lines count from 0 here.
use Rattle.std.specs.Prelude.{◌≡◌, ℕ, ◌+◌, ◌<◌, List, map, filter, take, Option, MatchOption, Result, MatchResult}
use Rattle.std.specs.List.{list_any}
use Rattle.collate_lines.specs.declared.rule.Rule.{Rule}
use Rattle.collate_lines.specs.declared.rule.RecordsError.{RecordsError}
use Rattle.collate_lines.specs.declared.limits.Limits.{Limits}
use Rattle.collate_lines.specs.Record.{Record, said}
use Rattle.collate_lines.specs.Repeats.{is_second, says_something}
use Rattle.collate_lines.specs.Lines.{lines_of, numbers_from, records_in, records_of}
use Rattle.collate_lines.specs.Seen.{is_seen}
use Rattle.collate_rules.specs.Offenders.{NoneOffendsWithin, IsFirstOffenderWithin}
use Rattle.collate_rules.specs.Rules.{rank}
use Rattle.collate_records.specs.declared.reader.Reading.{Reading}
use Rattle.collate_records.specs.Files.{Breaks, RefusesWithin}

-- no line before line i breaks the grammar, the size or V14
abbrev pub AreSound : Limits → List ℕ → ℕ → Type 0
AreSound limits file i = (rule : Rule) (k : ℕ) → k < i → rank rule ≡ 0 → Breaks limits rule file k → ⊥

-- The lines before line i were read: what those say that say something, their numbers, which count from 1, and what they were for.
pub record IsReadTo (file : List ℕ) (i : ℕ) (reading : Reading) : Type 0 where
  pub records : map said reading.records.items ≡ filter says_something (take i (records_in (lines_of file)))
  pub numbers : reading.numbers.items ≡ numbers_from 1 (take i (records_in (lines_of file)))
  pub seen : (other : Record) → is_seen reading.seen other ≡ list_any (λ s. is_second s other) (map said reading.records.items)

-- no line breaks a rule of a rank below the bound
abbrev pub KeepsBelow : Limits → ℕ → List ℕ → Type 0
KeepsBelow limits bound file = (rule : Rule) (i : ℕ) → rank rule < bound → Breaks limits rule file i → ⊥

-- the records of a file, with the numbers of their lines, which count from 1
pub record AreOfFile (file : List ℕ) (records : List Record) (numbers : List ℕ) : Type 0 where
  pub same_records : records ≡ records_of file
  pub same_numbers : numbers ≡ numbers_from 1 (records_in (lines_of file))

-- One rule was asked after those of lower ranks: what was found is the first record that offends against it.
abbrev pub AsksRule : Limits → Rule → List ℕ → List Record → List ℕ → Option ℕ → Result (Unit {0}) RecordsError → Type 0
AsksRule limits rule file records numbers found answer =
    AreOfFile file records numbers → 0 < rank rule
    → MatchOption found (NoneOffendsWithin limits rule records) (IsFirstOffenderWithin limits rule records) → KeepsBelow limits (rank rule) file
    → MatchResult answer (λ _. KeepsBelow limits (rank rule + 1) file) (RefusesWithin limits file)

-- The rules from the limits on were asked, after the grammar and V14.
abbrev pub AsksRules : Limits → List ℕ → Result (Unit {0}) RecordsError → Type 0
AsksRules limits file answer =
    KeepsBelow limits 1 file → MatchResult answer (λ _. KeepsBelow limits 26 file) (RefusesWithin limits file)
