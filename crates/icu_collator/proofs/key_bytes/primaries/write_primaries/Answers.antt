use Rattle.std.proofs.Common.{◌++◌, ◌≤◌, ◌∙◌, length, arith}
use Rattle.icu_collator.specs.Collators.{source_collation}
use Rattle.icu_collator.specs.KeyBytes.{primary_level, was_compressible}
use Rattle.icu_collator.specs.LevelLists.{counted_list, primaries_by}
use Rattle.icu_collator.specs.Levels.{primary_at}
use Rattle.icu_collator.proofs.key_writing.GivenLevelLemmas.{primaries_end}
use Rattle.icu_collator.proofs.key_bytes.primaries.write_primaries.Goals as goal

pub elements-preserved : goal.elements-preserved
elements-preserved c =
    let on = c.in_ok-written.ensures.level in
    record { within = on.within; run = on.goes_on; level = on.level ∙ c.write_alike-behind.ensures.level ∙ c.elements.invariant.level }

pub elements-smaller : goal.elements-smaller
elements-smaller c =
    let up = c.write_alike-behind.ensures.onward in
    let onward = c.in_ok-written.ensures.onward in
    let inside = c.elements-test.true in
    omega (arith, up, onward, inside)

pub returns-then-behind-elements : goal.returns-then-behind-elements
returns-then-behind-elements c =
    let collation = source_collation c.args.checked.now in
    let past : length c.args.elements.now ≤ c.write_alike-behind.result = let end = c.if-behind-elements.true in omega (arith, end) in
    primaries_end (primary_at collation) c.args.variable_end c.args.elements.now (was_compressible collation) c.write_alike-behind.result c.elements.run
    (c.args.key.now.items ++ primary_level collation (primaries_by collation (counted_list c.args.variable_end c.args.elements.now)))
    c.write_alike-behind.new.key.items past (c.write_alike-behind.ensures.level ∙ c.elements.invariant.level)

pub returns : goal.returns
returns c =
    let collation = source_collation c.args.checked.now in
    let past : length c.args.elements.now ≤ c.elements.index = let end = c.elements-test.false in omega (arith, end) in
    primaries_end (primary_at collation) c.args.variable_end c.args.elements.now (was_compressible collation) c.elements.index c.elements.run
    (c.args.key.now.items ++ primary_level collation (primaries_by collation (counted_list c.args.variable_end c.args.elements.now)))
    c.elements.key.items past c.elements.invariant.level
