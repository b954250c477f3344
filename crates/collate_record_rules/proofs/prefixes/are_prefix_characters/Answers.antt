use Rattle.std.proofs.Common.{map, sym, ◌∙◌}
use Rattle.icu_collator_core.specs.ContextRules.{is_prefix_character}
use Rattle.collate_lines.specs.Record.{said}
use Rattle.collate_rules.specs.Meaning.{canonical_of}
use Rattle.collate_rules.specs.RecordRules.{digit_of}
use Rattle.collate_record_rules.proofs.records.DropLemmas.{all_hit, all_miss}
use Rattle.collate_record_rules.proofs.prefixes.are_prefix_characters.Goals as goal

pub returns-then-not-is_prefix_character : goal.returns-then-not-is_prefix_character
returns-then-not-is_prefix_character c =
    let lines = map said c.args.given.now.lines.now in
    all_hit (is_prefix_character (canonical_of lines) (digit_of lines)) c.args.prefix.now c.loop-c.c-index c.c-item.result c.loop-c-test.true c.c-item.is
    (sym c.is_prefix_character.ensures ∙ c.if-not-is_prefix_character.true) c.loop-c.invariant

pub loop-c-preserved : goal.loop-c-preserved
loop-c-preserved c =
    let lines = map said c.args.given.now.lines.now in
    all_miss (is_prefix_character (canonical_of lines) (digit_of lines)) c.args.prefix.now c.loop-c.c-index c.c-item.result c.loop-c-test.true c.c-item.is
    (sym c.is_prefix_character.ensures ∙ c.if-not-is_prefix_character.false) c.loop-c.invariant
