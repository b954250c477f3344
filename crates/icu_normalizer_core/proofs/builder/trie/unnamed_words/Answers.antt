use Rattle.std.proofs.Common.{◌≤◌, arith}
use Rattle.std.specs.Range.{range_inclusive_start, range_inclusive_end}
use Rattle.icu_normalizer_core.proofs.building.WordMapLemmas.{words_unnamed, range_written}
use Rattle.icu_normalizer_core.proofs.builder.trie.unnamed_words.Goals as goal

pub returns : goal.returns
returns c =
    let first : range_inclusive_start c.new-2.result ≤ 0x10_FFFF = let e = c.new-2.ensures.start in omega arith in
    let last : range_inclusive_end c.new-2.result ≤ 0x10_FFFF = let e = c.new-2.ensures.end in omega arith in
    let written = range_written _ _ _ _ c.set_range_value.result (range_inclusive_start c.new-2.result) (range_inclusive_end c.new-2.result) c.set_range_value.ensures.written c.set_range_value.ensures.refused first last in
    words_unnamed c.in_ok-words.words c.set_range_value.new.self c.new-2.result c.in_ok-words.ensures.all c.in_ok-words.ensures.values c.in_ok-words.ensures.kept.0
    written c.new-2.ensures.start c.new-2.ensures.end c.new-2.ensures.exhausted
