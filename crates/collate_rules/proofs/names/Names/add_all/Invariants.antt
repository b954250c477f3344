use Rattle.std.proofs.Common.{ℕ, List, ◌++◌, take}
use Rattle.collate_rules.specs.Limits.{AreNamed}
use Rattle.collate_rules.proofs.names.Names.add_all.Given as goal

abbrev pub invariant-loop-character : goal.invariant-loop-character
invariant-loop-character l = (list : List ℕ) → AreNamed l.initial.self list → AreNamed l.self (list ++ take l.character-index l.characters)
