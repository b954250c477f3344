-- Lines by the characters that they say something of.
use Rattle.std.specs.Prelude.{◌≡◌, ℕ, Bool, false, cond, ◌==◌, List, [], ◌∷◌, filter, map, Option, Some, None}
use Rattle.std.specs.Borrow.{Bor}
use Rattle.std.specs.Ordering.{nat_cmp}
use Rattle.std.specs.BTreeMap.{BTreeMap, get}
use Rattle.std.specs.Global.{Vec}
use Rattle.icu_normalizer_core.specs.BuiltIn.{is_within}
use Rattle.icu_collator_core.specs.Weights.{Range}
use Rattle.collate_lines.specs.declared.record.Record.{Record as Line}
use Rattle.collate_lines.specs.Record.{Record, digit, said, weights}

-- the character that a line says something of: the first of its text, or a digit
abbrev pub character_of : Record → Option ℕ
character_of (weights layer prefix (c ∷ cs) es) = Some c
character_of (digit c value) = Some c
character_of _ = None

-- whether it says something of this character
abbrev pub is_own : ℕ → Record → Bool
is_own c line = elim (character_of line) [ Some d ↦ c == d | None ↦ false ]

-- the lines that do, in their order
abbrev pub own_lines : ℕ → List Record → List Record
own_lines c lines = filter (is_own c) lines

-- what a line that is pointed to says
abbrev pub said_by : Bor Line → Record
said_by line = said line.now

-- what a map has of a character
abbrev pub said_in : BTreeMap ℕ (Vec (Bor Line)) → ℕ → List Record
said_in own c = elim (get nat_cmp own c) [ Some lines ↦ map said_by lines.items | None ↦ [] ]

-- of each character a map has the lines that say something of it
abbrev pub HasOwn : BTreeMap ℕ (Vec (Bor Line)) → List Record → Type 0
HasOwn own lines = (c : ℕ) → said_in own c ≡ own_lines c lines

-- a range, if it holds a character
abbrev pub held_by : ℕ → Range → Option Range
held_by c r = cond (is_within r.first r.last c) (Some r) None
