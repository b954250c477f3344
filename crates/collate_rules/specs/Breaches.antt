-- The rules that classes and mappings break together, and what a test tells of them.
use Rattle.std.specs.Prelude.{ℕ, ◌+◌, ◌-◌, ◌<◌, ◌↔◌, List, [], map, length, take, Bool, IsTrue, Result, IfOk}
use Rattle.collate_rules.specs.declared.canonical_part.CanonicalPart.{CanonicalPart}
use Rattle.collate_rules.specs.declared.canonical_parts.CanonicalParts.{CanonicalParts}
use Rattle.collate_lines.specs.declared.rule.Rule.{Rule}
use Rattle.collate_lines.specs.declared.rule.Rule.TheVariants.{C1, C2, C4, C7}
use Rattle.collate_lines.specs.Record.{Record}
use Rattle.collate_rules.specs.Rules.{MapsMark, HasLoop, HasBadList, HasBadLow}
use Rattle.collate_rules.specs.CanonicalParts.{in_full, SaysSame}

-- lines break a rule together
abbrev pub Breach : Rule → List Record → Type 0
Breach C1 records = MapsMark records
Breach C2 records = HasLoop records
Breach C4 records = HasBadList records
Breach C7 records = HasBadLow records
Breach _ records = ⊥

-- the parts before the last
abbrev pub earlier : List CanonicalPart → List CanonicalPart
earlier parts = take (length parts - 1) parts

-- where the parts before the last break no rule, an answer tells whether all of them break it
abbrev pub AnswersBreach : {E : Type 0} → Rule → List CanonicalPart → Result Bool E → Type 0
AnswersBreach rule parts answer =
    (Breach rule (map in_full (earlier parts)) → ⊥) → IfOk answer (λ b. IsTrue b ↔ Breach rule (map in_full parts))

-- a rule asks only for classes and mappings
abbrev pub AsksForSaid : Rule → Type 0
AsksForSaid rule = (records others : List Record) → SaysSame records others → Breach rule records → Breach rule others

-- a test tells so of all parts, and the rule asks only for classes and mappings
pub record TellsBreach {E : Type 0} (rule : Rule) (test : CanonicalParts → Result Bool E → Type 0) : Type 0 where
  pub tells : (parts : CanonicalParts) (answer : Result Bool E) → test parts answer → AnswersBreach rule parts.list.items answer
  pub same : AsksForSaid rule
  pub none : Breach rule [] → ⊥

-- where a certificate clears parts, no beginning of them breaks the rule
abbrev pub AnswersClear : {E : Type 0} → Rule → List CanonicalPart → Result Bool E → Type 0
AnswersClear rule parts answer =
    IfOk answer (λ b. IsTrue b → (k : ℕ) → Breach rule (map in_full (take k parts)) → ⊥)

-- a test gives such certificates
pub record TellsClear {E : Type 0} (rule : Rule) (test : CanonicalParts → Result Bool E → Type 0) : Type 0 where
  pub tells : (parts : CanonicalParts) (answer : Result Bool E) → test parts answer → AnswersClear rule parts.list.items answer

-- the lines up to none break the rule together
abbrev pub NoneBreaks : Rule → List Record → Type 0
NoneBreaks rule records = (i : ℕ) → i < length records → Breach rule (take (i + 1) records) → ⊥

-- the lines up to line i do, and those up to no line before it
abbrev pub IsFirstToBreak : Rule → List Record → ℕ → Type 0
IsFirstToBreak rule records i =
    (i < length records) × Breach rule (take (i + 1) records) × ((j : ℕ) → j < i → Breach rule (take (j + 1) records) → ⊥)
