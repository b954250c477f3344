use Rattle.std.proofs.Common.{◌≡◌, ◌+◌, ◌*◌, ◌/◌, ◌%◌, Some, sym, ap, ◌∙◌, arith}
use Rattle.std.specs.Prelude.{slice_get}
use Rattle.std.proofs.lemmas.Option.{slice_get-get_or, slice_get_within}
use Rattle.icu_codepointtrie.proofs.trie.wide_offset.Goals as goal

-- the upper bits stand before the lower ones
pub returns-clause-offset : goal.returns-clause-offset
returns-clause-offset c =
    let index = c.args.index.now in
    let group = c.args.groups + c.args.number / 8 * 9 in
    let upper = c.at-upper.result in
    let inside = slice_get_within index (group + 1 + c.args.number % 8) c.in_ok-lower.field-0 (sym c.in_ok-lower.ensures.item) in
    let read : slice_get index group ≡ Some upper = slice_get-get_or index group upper (omega (arith, inside)) ∙ ap Some (sym (c.at-upper.ensures.item upper)) in
    simp (read, ← c.in_ok-lower.ensures.item) (ap Some (omega arith))
