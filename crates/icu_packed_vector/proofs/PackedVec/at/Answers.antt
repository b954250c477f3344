use Rattle.std.proofs.Common.{sym, ◌∙◌, ap, get_or, arith}
use Rattle.icu_packed_vector.proofs.ItemLemmas.{get_or-items_of}
use Rattle.icu_packed_vector.proofs.PackedVec.at.Goals as goal

pub returns-clause-item : goal.returns-clause-item
returns-clause-item g c = λ d.
    c.read_at.ensures.meaning
    ∙ sym (ap (λ xs. get_or xs c.args.index d) c.as_bytes.ensures.same
    ∙ get_or-items_of g.T.PackedItem.WIDTH g.T.PackedItem.meaning c.as_bytes.result.now c.args.index d (omega (arith, c.as_bytes.ensures.count)))
