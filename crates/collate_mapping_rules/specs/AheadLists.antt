-- Characters of which at most so many steps are to be made.
use Rattle.std.specs.Prelude.{ℕ}
use Rattle.collate_mapping_rules.specs.declared.fronts.Ahead.{Ahead}

-- a character of which at most so many steps are to be made
abbrev pub at_limit : ℕ → ℕ → Ahead
at_limit limit c = record { character = c; limit = limit }
