use Rattle.std.proofs.Common.{◌≡◌, map, drop}
use Rattle.icu_collator_types.specs.Options.{default_settings}
use Rattle.collate_lines.specs.Record.{said}
use Rattle.collate_rules.specs.Meaning.{case_first_in, set_to}
use Rattle.collate_compile.proofs.set_lines.case_first.Given as goal

abbrev pub invariant-loop-line : goal.invariant-loop-line
invariant-loop-line l = set_to case_first_in default_settings.case_first
    (map said (drop l.line-index l.lines)) ≡ set_to case_first_in default_settings.case_first (map said l.lines)
