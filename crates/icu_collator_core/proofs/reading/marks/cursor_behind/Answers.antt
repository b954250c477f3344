use Rattle.std.proofs.Common.{◌+◌, ◌<◌, length, arith}
use Rattle.icu_char16trie.specs.Cursors.{trie_units}
use Rattle.icu_collator_core.proofs.lookups.JoinLemmas.{behind_next}
use Rattle.icu_collator_core.proofs.reading.marks.cursor_behind.Goals as goal

pub loop-i-preserved : goal.loop-i-preserved
loop-i-preserved c =
    let list = c.args.list.now in
    let inside : c.args.start + c.loop-i.i < length list = let bound = c.requires in omega (arith, bound) in
    behind_next (trie_units c.args.trie.now) list c.args.start c.loop-i.i c.index-list-start.result c.loop-i.cursor c.next.new.self c.next.result
    inside c.index-list-start.is c.loop-i.invariant c.next.ensures
