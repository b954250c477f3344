use Rattle.std.proofs.Common.{◌≡◌, ◌+◌, ◌-◌, ◌*◌, ℕ, List, length, ap, arith}
use Rattle.icu_normalizer_core.proofs.building.ListWordLemmas.{list_stated}
use Rattle.icu_normalizer_core.proofs.builder.full_list_words.listed_word.Goals as goal

pub returns-clause-states : goal.returns-clause-states
returns-clause-states c = λ s16 e more.
    let index : length c.as_slice.result.now ≡ length c.args.scalars24.now.items = ap (λ (t : List ℕ). length t) c.as_slice.ensures.value in
    let r = c.requires.room in
    let some = c.requires.some in
    list_stated s16 c.args.scalars24.now.items c.args.list.now c.append.new.scalars24.items
    ((c.args.base + length c.as_slice.result.now + 1) * 65536 + (length c.args.list.now - 1))
    some c.requires.few (omega arith) (omega arith) c.in_ok-append.ensures more
