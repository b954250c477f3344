use Rattle.std.proofs.Common.{cond, map, ap, arith, rules, ◌∙◌}
use Rattle.std.specs.Str.{bytes_eq}
use Rattle.std.proofs.lemmas.List.Sorted.{All-permutation, answers_always, length_permutation, sum_by-IsPermutation}
use Rattle.icu_char16trie.specs.WrittenUnits.{keyed}
use Rattle.icu_char16trie.proofs.Writing.KeyFaultLemmas.{keyed_length}
use Rattle.collate_words.specs.ContextKeys.{FitsContext}
use Rattle.collate_words.proofs.written.SortedKeyLemmas.{comes_before, no_fault, order_of_keys}
use Rattle.collate_words.proofs.written.TrieKeyLemmas.{keys_written, signed_pair, written_few}
use Rattle.collate_words.proofs.contexts.units_of_keys.Goals as goal

pub returns-in-Ok-clause-keys : goal.returns-in-Ok-clause-keys
returns-in-Ok-clause-keys c =
    let old = c.args.keys.now.items in
    let new = c.sort_unstable_by.new.self.items in
    let moved = c.sort_unstable_by.ensures.permutation in
    let are = ap keyed c.as_slice-2.ensures.value ∙ c.in_ok-pairs.ensures
    ∙ ap (map signed_pair) c.as_slice.ensures.value in
    keys_written old new (keyed c.as_slice-2.result.now) c.in-Ok.units.items moved c.requires.some
    (length_permutation old new c.sort_unstable_by.ensures.permutation)
    (All-permutation FitsContext old new moved c.requires.fit) are c.in-Ok.ensures.grammar c.in-Ok.ensures.entries

pub returns-in-Ok-clause-size : goal.returns-in-Ok-clause-size
returns-in-Ok-clause-size c =
    let old = c.args.keys.now.items in
    let new = c.sort_unstable_by.new.self.items in
    let are = ap keyed c.as_slice-2.ensures.value ∙ c.in_ok-pairs.ensures
    ∙ ap (map signed_pair) c.as_slice.ensures.value in
    written_few old new (keyed c.as_slice-2.result.now) _ _
    (length_permutation old new c.sort_unstable_by.ensures.permutation)
    (All-permutation FitsContext old new c.sort_unstable_by.ensures.permutation c.requires.fit) are
    (keyed_length c.as_slice-2.result.now) c.in-Ok.ensures.size

pub out_of_memory-requires : goal.out_of_memory-requires
out_of_memory-requires c =
    let old = c.args.keys.now.items in
    let new = c.sort_unstable_by.new.self.items in
    let moved = c.sort_unstable_by.ensures.permutation in
    let are = ap keyed c.as_slice-2.ensures.value ∙ c.in_ok-pairs.ensures
    ∙ ap (map signed_pair) c.as_slice.ensures.value in
    let counted = length_permutation old new moved in
    let few = c.requires.few in
    no_fault new (All-permutation FitsContext old new moved c.requires.fit)
    (λ units.
    let same = sum_by-IsPermutation (λ key. cond (bytes_eq key.units.items units) 1 0) old new moved in
    let one = c.requires.once units in
    omega (arith, same, one))
    (c.sort_unstable_by.ensures.sorted comes_before order_of_keys
    (answers_always _ _ _ (λ f a r g called. search rules)))
    (keyed c.as_slice-2.result.now) are (omega (arith, counted, few)) c.in-Err.error c.in-Err.ensures.refused
