use Rattle.std.proofs.Common.{◌<◌, ap, arith}
use Rattle.icu_char16trie.specs.Cursors.{trie_units}
use Rattle.icu_collator_core.specs.Elements.{longest_prefix}
use Rattle.icu_collator_core.specs.ReadTexts.{longest_text}
use Rattle.icu_collator_core.proofs.lookups.ToldPrefixLemmas.{more_back, none_back, stopped_back, told_by_three}
use Rattle.icu_collator_core.proofs.reading.prefixes.is_nearest_told.Goals as goal

pub returns-then-index-ge-LONGEST_PREFIX : goal.returns-then-index-ge-LONGEST_PREFIX
returns-then-index-ge-LONGEST_PREFIX c = λ _ pools further.
    ap (longest_text pools (trie_units c.args.trie.now)) (told_by_three c.args.list.now c.args.index further c.requires (omega (arith, c.if-index-ge-LONGEST_PREFIX.true)))

pub loop-n-init : goal.loop-n-init
loop-n-init c = λ pools.
    none_back (trie_units c.args.trie.now) c.args.list.now c.args.index pools c.iter-cursor.result c.iter-cursor.ensures.units c.iter-cursor.ensures.start

pub returns-then-is_last : goal.returns-then-is_last
returns-then-is_last c = λ _ pools further.
    let units = trie_units c.args.trie.now in
    let list = c.args.list.now in
    let index = c.args.index in
    let n = c.loop-n.n in
    let inside : n < index = omega (arith, c.loop-n-test.true) in
    let few : n < longest_prefix = omega (arith, inside, c.if-index-ge-LONGEST_PREFIX.false) in
    stopped_back units list index pools n c.next-answer.new.self c.requires inside few
    (more_back units list index pools n c.index-list-index.result c.loop-n.cursor c.next-answer.new.self c.next-answer.result c.requires inside few c.index-list-index.is
    (c.loop-n.invariant pools) c.next-answer.ensures)
    (c.next-answer.ensures.stops (c.is_last.ensures c.if-is_last.true)) further

pub loop-n-preserved : goal.loop-n-preserved
loop-n-preserved c = λ pools.
    let n = c.loop-n.n in
    let inside : n < c.args.index = omega (arith, c.loop-n-test.true) in
    let few : n < longest_prefix = omega (arith, inside, c.if-index-ge-LONGEST_PREFIX.false) in
    more_back (trie_units c.args.trie.now) c.args.list.now c.args.index pools n c.index-list-index.result c.loop-n.cursor c.next-answer.new.self c.next-answer.result
    c.requires inside few c.index-list-index.is (c.loop-n.invariant pools) c.next-answer.ensures
