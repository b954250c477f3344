use Rattle.std.proofs.Common.{ℕ, [], ◌∷◌, ◌++◌, Option, append_assoc, subst, sym, ap, ◌∙◌}
use Rattle.std.specs.Option.{option_to_list}
use Rattle.collate_lines.specs.declared.record.Record.{Record as Line}
use Rattle.collate_lines.specs.Record.{said}
use Rattle.collate_rules.specs.Limits.{AreNamed}
use Rattle.collate_rules.specs.Rules.{named}
use Rattle.collate_rules.proofs.names.Names.add_line.Goals as goal

pub returns-in_ok-add-in-Map-3 : goal.returns-in_ok-add-in-Map-3
returns-in_ok-add-in-Map-3 c = λ list has.
    let a = c.in-Map.character in
    let b = c.in-Map.first in
    let d = c.in-Some.second in
    let one = c.in_ok-add-in-Map.ensures list has in
    let two = c.in_ok-add-in-Map-2.ensures (list ++ a ∷ []) one in
    let three = c.in_ok-add-in-Map-3.ensures ((list ++ a ∷ []) ++ b ∷ []) two in
    subst (AreNamed c.add-in-Some.new.self)
    (append_assoc (list ++ a ∷ []) (b ∷ []) (d ∷ [])
    ∙ append_assoc list (a ∷ []) (b ∷ d ∷ [])
    ∙ ap (λ (o : Option ℕ). list ++ a ∷ b ∷ option_to_list o) (sym c.in-Some.is)
    ∙ ap (λ (line : Line). list ++ named (said line)) (sym c.in-Map.is))
    three
