use Rattle.std.proofs.Common.{ℕ, ◌+◌, ◌*◌, List, [], ◌∷◌, slice_index, sym, subst}
use Rattle.icu_normalizer_core.specs.Settled.{IsStartOf}
use Rattle.icu_normalizer_core.proofs.settling.SettledLemmas.{start_joined}
use Rattle.icu_normalizer_core.proofs.settling.SettlingLemmas.{mapping_double}
use Rattle.icu_normalizer_core.proofs.canonical.check.settle.mapping_left.Goals as goal

pub returns : goal.returns
returns c =
    let both = mapping_double (slice_index c.args.steps.now (3 * c.args.index + 1)) (slice_index c.args.steps.now (3 * c.args.index + 2)) c.at.result c.at-second.result
    (c.at.ensures.item 0) (c.at-second.ensures.item 0) c.if-second-eq-NO_SECOND.false in
    subst (λ (text : List ℕ). IsStartOf c.args.steps.now text c.joined.result) (sym both)
    (start_joined c.args.steps.now (c.at.result ∷ []) (c.at-second.result ∷ []) c.in-Some.first c.in-Some-left_of.other c.joined.result c.in-Some.ensures c.in-Some-left_of.ensures c.joined.ensures)
