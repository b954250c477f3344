use Rattle.std.proofs.Common.{◌≡◌, map, drop}
use Rattle.icu_collator_types.specs.Options.{default_settings}
use Rattle.collate_lines.specs.Record.{said}
use Rattle.collate_rules.specs.Meaning.{alternate_in, set_to}
use Rattle.collate_compile.proofs.set_lines.alternate_handling.Given as goal

abbrev pub invariant-loop-line : goal.invariant-loop-line
invariant-loop-line l = set_to alternate_in default_settings.alternate_handling
    (map said (drop l.line-index l.lines)) ≡ set_to alternate_in default_settings.alternate_handling
    (map said l.lines)
