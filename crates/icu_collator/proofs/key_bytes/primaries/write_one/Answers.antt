use Rattle.std.proofs.Common.{◌++◌, ◌∙◌, drop, ap, arith, refl}
use Rattle.std.specs.Prelude.{option_map}
use Rattle.icu_collator.specs.Collators.{source_collation}
use Rattle.icu_collator.specs.KeyBytes.{codes_from, primary_code, primary_run, was_compressible}
use Rattle.icu_collator.specs.LevelLists.{counted_list, counted_of, primaries_by}
use Rattle.icu_collator.specs.Levels.{primary_at}
use Rattle.icu_collator.proofs.key_writing.GivenLevelLemmas.{own_reordered, primaries_go_on}
use Rattle.icu_collator.proofs.key_bytes.primaries.write_one.Goals as goal

pub returns : goal.returns
returns c =
    let collation = source_collation c.args.checked.now in
    let items = c.args.elements.now in
    let index = c.args.index in
    let inside = c.requires.inside in
    let adds = c.in_ok-now.ensures in
    record {
      within = omega (arith, inside);
      goes_on = adds.goes_on;
      level = primaries_go_on (primary_at collation) c.args.variable_end items (was_compressible collation) index c.index-elements-index.result c.args.run
          c.in_ok-now.now (option_map collation.reordered c.own_primary_at-primary.result)
          (c.args.key.now.items ++ codes_from primary_code (primary_run (was_compressible collation)) c.args.run (primaries_by collation (counted_list c.args.variable_end (drop index items))))
          c.args.key.now.items c.write_given.new.key.items inside c.index-elements-index.is
          (ap (option_map collation.reordered) c.own_primary_at-primary.ensures ∙ own_reordered collation (counted_of c.counted_element.result)
          ∙ ap (primary_at collation) c.counted_element.ensures) refl adds;
    }
