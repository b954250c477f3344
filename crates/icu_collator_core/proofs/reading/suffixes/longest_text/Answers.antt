use Rattle.std.proofs.Common.{◌≡◌, ◌+◌, ◌-◌, ◌<◌, drop, length, subst, arith}
use Rattle.std.proofs.Common.{None}
use Rattle.icu_char16trie.specs.Cursors.{trie_units}
use Rattle.icu_collator_core.specs.TableMeaning.{pools_of}
use Rattle.icu_collator_core.proofs.lookups.LookedUpTextLemmas.{HasRead, read_next, read_none, read_stopped, within_rest}
use Rattle.icu_collator_core.proofs.reading.suffixes.longest_text.Goals as goal

pub loop-index-init : goal.loop-index-init
loop-index-init c =
    let nothing : 0 ≡ c.args.start - c.args.start = omega arith in
    subst (λ n. HasRead (pools_of c.args.source.now) (trie_units c.args.trie.now) (drop c.args.start c.args.list.now) n c.iter-cursor.result None) nothing
    (read_none (pools_of c.args.source.now) (trie_units c.args.trie.now) (drop c.args.start c.args.list.now) c.iter-cursor.result c.iter-cursor.ensures.units c.iter-cursor.ensures.start)

pub returns-then-is_last : goal.returns-then-is_last
returns-then-is_last c =
    let pools = pools_of c.args.source.now in
    let units = trie_units c.args.trie.now in
    let list = c.args.list.now in
    let index = c.loop-index.index in
    let inside : index < length list = omega arith in
    read_stopped pools units (drop c.args.start list) (index + 1 - c.args.start) c.next-answer.new.self c.longer_of-longest.result
    (within_rest list c.args.start index c.loop-index.auto.index inside)
    (read_next pools units list c.args.start index c.index-list-index.result c.loop-index.cursor c.next-answer.new.self c.loop-index.longest c.longer_of-longest.result c.next-answer.result
    c.loop-index.auto.index inside c.index-list-index.is c.loop-index.invariant c.next-answer.ensures c.longer_of-longest.ensures)
    (c.next-answer.ensures.stops (c.is_last.ensures c.if-is_last.true))

pub loop-index-preserved : goal.loop-index-preserved
loop-index-preserved c =
    let list = c.args.list.now in
    let inside : c.loop-index.index < length list = omega arith in
    read_next (pools_of c.args.source.now) (trie_units c.args.trie.now) list c.args.start c.loop-index.index c.index-list-index.result c.loop-index.cursor c.next-answer.new.self c.loop-index.longest c.longer_of-longest.result c.next-answer.result
    c.loop-index.auto.index inside c.index-list-index.is c.loop-index.invariant c.next-answer.ensures c.longer_of-longest.ensures
