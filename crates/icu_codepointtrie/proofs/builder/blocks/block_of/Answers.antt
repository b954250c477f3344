use Rattle.std.proofs.Common.{◌+◌, ◌-◌, ◌*◌, List, map, take, drop, ap, sym, ◌∙◌}
use Rattle.std.proofs.lemmas.List.{take-map, drop-map, take_all}
use Rattle.icu_codepointtrie.proofs.builder.blocks.block_of.Goals as goal

pub returns : goal.returns
returns g c =
    let number = g.T.TrieValue.number in
    let first = c.args.number * c.args.width in
    let count = first + c.args.width - first in
    let part : List g.row.T.Denot = take count (drop first c.args.values.now) in
    c.loop-value.invariant
    ∙ ap (λ (xs : List g.row.T.Denot). map number xs) (take_all c.loop-value.value-index part c.loop-value-test.false)
    ∙ sym (take-map number count (drop first c.args.values.now))
    ∙ ap (λ xs. take count xs) (sym (drop-map number first c.args.values.now))
