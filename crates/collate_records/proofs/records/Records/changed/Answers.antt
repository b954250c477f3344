use Rattle.std.proofs.Common.{◌≡◌, ℕ, Bool, true, false, not, List, map, refl, subst, rules}
use Rattle.std.specs.Prelude.{IsTrue, MatchBool, ◌↔◌}
use Rattle.std.proofs.lemmas.Bool.{false≢true}
use Rattle.collate_lines.specs.Record.{Record, said}
use Rattle.collate_rules.specs.Meaning.{class_of, step_of}
use Rattle.collate_records.specs.Changes.{IsChanged, IsSaidAlike, IsUnchanged}
use Rattle.collate_records.proofs.records.Records.changed.Goals as goal

-- where class and mapping are the same, the rest decides
decided : (alike : Bool) (old new : List Record) (c : ℕ) → class_of old c ≡ class_of new c → step_of old c ≡ step_of new c
    → (IsTrue alike ↔ IsSaidAlike old new c) → MatchBool (not alike) (IsChanged old new c) (IsUnchanged old new c)
decided true old new c class mapping decides = record { class = class; mapping = mapping; weights = decides.0 refl }
decided false old new c class mapping decides = λ same. absurd (false≢true (decides.1 same.weights))

pub returns : goal.returns
returns c =
    let alike = c.are_said_alike.result in
    let first = subst (λ (lines : List Record). IsTrue alike ↔ IsSaidAlike lines (map said c.lines-2.result.now) c.args.c) c.lines.ensures.same c.are_said_alike.ensures in
    decided alike c.args.self.now.lines c.args.other.now.lines c.args.c (search rules) (search rules)
    (subst (λ (lines : List Record). IsTrue alike ↔ IsSaidAlike c.args.self.now.lines lines c.args.c) c.lines-2.ensures.same first)
