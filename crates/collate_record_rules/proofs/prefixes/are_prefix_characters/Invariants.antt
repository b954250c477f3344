use Rattle.std.proofs.Common.{◌≡◌, drop, map}
use Rattle.std.specs.List.{list_all}
use Rattle.icu_collator_core.specs.ContextRules.{is_prefix_character}
use Rattle.collate_lines.specs.Record.{said}
use Rattle.collate_rules.specs.Meaning.{canonical_of}
use Rattle.collate_rules.specs.RecordRules.{digit_of}
use Rattle.collate_record_rules.proofs.prefixes.are_prefix_characters.Given as goal

abbrev pub invariant-loop-c : goal.invariant-loop-c
invariant-loop-c l = list_all (is_prefix_character (canonical_of (map said l.given.lines.now)) (digit_of (map said l.given.lines.now))) (drop l.c-index l.prefix) ≡ list_all (is_prefix_character (canonical_of (map said l.given.lines.now)) (digit_of (map said l.given.lines.now))) l.prefix
