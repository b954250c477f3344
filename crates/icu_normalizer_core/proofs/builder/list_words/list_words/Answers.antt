use Rattle.std.proofs.Common.{◌<◌, ◌≤◌, [], refl, inl, inr, length, slice_get, arith}
use Rattle.std.proofs.lemmas.List.Sums.{sum_by-take-le}
use Rattle.icu_normalizer_core.specs.ListWords.{settled_slots}
use Rattle.icu_normalizer_core.specs.Settled.{left_items}
use Rattle.icu_normalizer_core.proofs.building.SettledWordLemmas.{got_here, over_eight, more_settled}
use Rattle.icu_normalizer_core.proofs.builder.list_words.list_words.Goals as goal

pub returns-then-list-gt8-clause-refused : goal.returns-then-list-gt8-clause-refused
returns-then-list-gt8-clause-refused c =
    let found = got_here c.args.settled.now c.loop-index.index _ _ c.loop-index-test.true c.in-Some.is in
    let long : 8 < length (left_items c.in-Some.left) = let h = c.if-list-gt8.true in omega arith in
    inr (refl, inl (c.loop-index.index, c.loop-index-test.true, over_eight (slice_get c.args.settled.now c.loop-index.index) c.in-Some.left found long))

pub returns-then-len-ge-PLACE_LIMIT-clause-refused : goal.returns-then-len-ge-PLACE_LIMIT-clause-refused
returns-then-len-ge-PLACE_LIMIT-clause-refused c =
    let full = c.if-len-ge-PLACE_LIMIT.true in
    inr (refl, inr (omega (arith, full, c.loop-index.invariant.size, sum_by-take-le settled_slots c.args.settled.now c.loop-index.index)))

pub list_word-requires-clause-scalars : goal.list_word-requires-clause-scalars
list_word-requires-clause-scalars c =
    (c.requires c.loop-index.index c.in-Some.left (got_here c.args.settled.now c.loop-index.index _ _ c.loop-index-test.true c.in-Some.is)).0

pub list_word-requires-clause-some : goal.list_word-requires-clause-some
list_word-requires-clause-some c =
    (c.requires c.loop-index.index c.in-Some.left (got_here c.args.settled.now c.loop-index.index _ _ c.loop-index-test.true c.in-Some.is)).1

pub loop-index-preserved : goal.loop-index-preserved
loop-index-preserved c =
    let few : length (left_items c.in-Some.left) ≤ 8 = let h = c.if-list-gt8.false in omega arith in
    more_settled c.loop-index.scalars24.items c.list_word.new.scalars24.items c.args.settled.now c.loop-index.words.items c.push.new.self.items c.loop-index.index c.in_ok-word.word c.in-Some.left
    c.loop-index.invariant (got_here c.args.settled.now c.loop-index.index _ _ c.loop-index-test.true c.in-Some.is) few
    c.in_ok-word.ensures.grows (c.in_ok-word.ensures.states [] refl) c.in-Ok.ensures.items
