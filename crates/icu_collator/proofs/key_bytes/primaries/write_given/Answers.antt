use Rattle.std.proofs.Common.{◌∙◌, ap, sym, Some}
use Rattle.std.specs.Prelude.{option_map}
use Rattle.icu_collator_core.specs.TableSettings.{reordered_in}
use Rattle.icu_collator_core.specs.declared.tables.CollationTables.{CollationTables}
use Rattle.icu_collator.specs.Collators.{source_collation}
use Rattle.icu_collator.specs.KeyBytes.{was_compressible}
use Rattle.icu_collator.proofs.key_writing.GivenLevelLemmas.{adds_no_primary, adds_primary}
use Rattle.icu_collator.proofs.key_bytes.primaries.write_given.Goals as goal

pub returns-in_default : goal.returns-in_default
returns-in_default c =
    let collation = source_collation c.args.checked.now in
    adds_no_primary (was_compressible collation) (option_map collation.reordered c.args.primary) c.args.run c.args.key.now.items c.requires
    (ap (option_map collation.reordered) c.in_default.is)

pub returns : goal.returns
returns c =
    let collation = source_collation c.args.checked.now in
    adds_primary (was_compressible collation) (option_map collation.reordered c.args.primary) c.reordered-in_place.result c.args.run c.run_after.result c.args.key.now.items
    c.write_primary.new.key.items (ap (option_map collation.reordered) c.in-Some.is ∙ ap Some (sym (c.reordered-in_place.ensures ∙ ap (λ (t : CollationTables). reordered_in t.reordering c.in-Some.primary) c.tables.ensures)))
    c.in_ok-write_primary.ensures (c.run_after.ensures.next c.args.run) c.run_after.ensures.goes_on
