use Rattle.std.proofs.Common.{◌≡◌, ◌+◌, ◌-◌, ◌%◌, ◌≤◌, [], ◌∷◌, length, sym, ◌∙◌, arith}
use Rattle.icu_normalizer_core.specs.CanonicalWords.{items_at, list_offset}
use Rattle.icu_normalizer_core.proofs.full_lists.FullListLemmas.{listed_in_24, three_items}
use Rattle.icu_normalizer_core.proofs.canonical.character_data.three_listed.Goals as goal

pub returns : goal.returns
returns c =
    let in_16 = c.len-in_16.ensures in
    let behind : length c.args.words.scalars16.now ≤ list_offset c.args.word = let h = c.if-offset-in_16.false in omega arith in
    let fits : list_offset c.args.word - c.len-in_16.result + 3 ≤ length c.args.words.scalars24.now = let all = c.len.ensures in let h = c.if-len-index.false in omega arith in
    let three : c.args.word % 16 + 1 ≡ 3 = let h = c.if-word-ne2.false in omega arith in
    let list = rw (three, sym in_16) at (listed_in_24 c.args.words.scalars16.now c.args.words.scalars24.now c.args.word behind) in
    let items : items_at c.args.words.scalars24.now (list_offset c.args.word - c.len-in_16.result) 3 ≡ c.at-first.result ∷ c.at-second.result ∷ c.at-third.result ∷ [] =
    rw (c.at-first.ensures.item 0, c.at-second.ensures.item 0, c.at-third.ensures.item 0) (three_items c.args.words.scalars24.now (list_offset c.args.word - c.len-in_16.result) fits) in
    list ∙ items
