use Rattle.std.proofs.Common.{◌≡◌, map, drop}
use Rattle.icu_collator_types.specs.Options.{default_settings}
use Rattle.collate_lines.specs.Record.{said}
use Rattle.collate_rules.specs.Meaning.{max_variable_in, set_to}
use Rattle.collate_compile.proofs.set_lines.max_variable.Given as goal

abbrev pub invariant-loop-line : goal.invariant-loop-line
invariant-loop-line l = set_to max_variable_in default_settings.max_variable
    (map said (drop l.line-index l.lines)) ≡ set_to max_variable_in default_settings.max_variable (map said l.lines)
