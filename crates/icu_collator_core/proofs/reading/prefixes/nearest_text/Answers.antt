use Rattle.std.proofs.Common.{◌+◌, ◌<◌, ◌≤◌, length, arith}
use Rattle.std.specs.Prelude.{min}
use Rattle.icu_char16trie.specs.Cursors.{trie_units}
use Rattle.icu_collator_core.specs.Elements.{longest_prefix}
use Rattle.icu_collator_core.specs.ReadTexts.{characters_before}
use Rattle.icu_collator_core.specs.TableMeaning.{pools_of}
use Rattle.icu_collator_core.proofs.lookups.PrefixLemmas.{before_count, read_back}
use Rattle.icu_collator_core.proofs.lookups.LookedUpTextLemmas.{read_none, read_stopped}
use Rattle.icu_collator_core.proofs.reading.prefixes.nearest_text.Goals as goal

pub loop-n-init : goal.loop-n-init
loop-n-init c =
    read_none (pools_of c.args.source.now) (trie_units c.args.trie.now) (characters_before c.args.list.now c.args.index) c.iter-cursor.result
    c.iter-cursor.ensures.units c.iter-cursor.ensures.start

pub returns-then-is_last : goal.returns-then-is_last
returns-then-is_last c =
    let pools = pools_of c.args.source.now in
    let units = trie_units c.args.trie.now in
    let list = c.args.list.now in
    let index = c.args.index in
    let n = c.loop-n.n in
    let count = before_count list index c.requires in
    let inside : n < min index longest_prefix = omega arith in
    let within : n + 1 ≤ length (characters_before list index) = omega (arith, count) in
    read_stopped pools units (characters_before list index) (n + 1) c.next-answer.new.self c.longer_of-longest.result within
    (read_back pools units list index n c.index-list-index.result c.loop-n.cursor c.next-answer.new.self c.loop-n.longest c.longer_of-longest.result c.next-answer.result
    c.requires inside c.index-list-index.is c.loop-n.invariant c.next-answer.ensures c.longer_of-longest.ensures)
    (c.next-answer.ensures.stops (c.is_last.ensures c.if-is_last.true))

pub loop-n-preserved : goal.loop-n-preserved
loop-n-preserved c =
    let inside : c.loop-n.n < min c.args.index longest_prefix = omega arith in
    read_back (pools_of c.args.source.now) (trie_units c.args.trie.now) c.args.list.now c.args.index c.loop-n.n c.index-list-index.result c.loop-n.cursor c.next-answer.new.self c.loop-n.longest c.longer_of-longest.result c.next-answer.result
    c.requires inside c.index-list-index.is c.loop-n.invariant c.next-answer.ensures c.longer_of-longest.ensures
