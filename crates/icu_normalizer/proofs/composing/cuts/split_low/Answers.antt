use Rattle.std.proofs.Common.{◌++◌, length, length-append, sym, ap, ap₂, ◌∙◌, arith}
use Rattle.icu_normalizer_core.specs.Canonical.{composed}
use Rattle.icu_normalizer_core.specs.FormData.{form_meaning}
use Rattle.icu_normalizer.proofs.composing.cuts.split_low.Goals as goal

pub split_before-requires : goal.split_before-requires
split_before-requires g c = (c.pass_low.ensures.prefix, c.pass_low.ensures.behind)

pub returns-clause-undamaged : goal.returns-clause-undamaged
returns-clause-undamaged g c =
    let front = c.split_before.ensures.front c.pass_low.ensures.prefix c.pass_low.ensures.behind in
    ap g.T.Text.encode front.1 ∙ sym front.0

pub returns-clause-stays : goal.returns-clause-stays
returns-clause-stays g c =
    let passed = c.pass_low.ensures in
    let front = c.split_before.ensures.front passed.prefix passed.behind in
    let form = composed (form_meaning c.args.basis) in
    ap g.T.Text.encode passed.alone ∙ g.met.T.Text.encoding.append passed.prefix (form (g.T.Text.spelled c.pass_low.result).characters)
    ∙ ap₂ (λ x y. x ++ g.T.Text.encode (form y)) (sym front.0) (sym c.split_before.ensures.back.1)

pub returns-clause-fewer : goal.returns-clause-fewer
returns-clause-fewer g c =
    let passed = c.pass_low.ensures in
    omega (arith, ap length passed.behind.characters, length-append passed.prefix (g.T.Text.spelled c.pass_low.result).characters, ap length c.split_before.ensures.back.1)
