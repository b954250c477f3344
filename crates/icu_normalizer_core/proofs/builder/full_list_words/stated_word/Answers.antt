use Rattle.std.proofs.Common.{arith}
use Rattle.icu_normalizer_core.proofs.building.ListWordLemmas.{one_of, two_of}
use Rattle.icu_normalizer_core.proofs.builder.full_list_words.stated_word.Goals as goal

pub returns-in-len1 : goal.returns-in-len1
returns-in-len1 c =
    let l = c.in-len1.len_at_least in
    let b = c.in-len1.len_below in
    let low = c.if-a-ge2.true in
    let high = c.if-a-lt65536.true in
    one_of c.args.list.now c.requires (omega arith) (omega arith) (omega arith)

pub returns-in-len2 : goal.returns-in-len2
returns-in-len2 c =
    let l = c.in-len2.len_at_least in
    let b = c.in-len2.len_below in
    let la = c.if-a-ge32.true in
    let ha = c.if-a-lt32768.true in
    let lb = c.if-b-ge2.true in
    let hb = c.if-b-lt32768.true in
    two_of c.args.list.now (omega arith) (omega arith) (omega arith) (omega arith) (omega arith)
