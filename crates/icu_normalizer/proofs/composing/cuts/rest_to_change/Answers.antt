use Rattle.std.proofs.Common.{rules, length, length-append, ap, arith}
use Rattle.icu_normalizer_core.specs.Canonical.{composed}
use Rattle.icu_normalizer_core.specs.FormData.{form_meaning}
use Rattle.icu_normalizer.proofs.composed.ComposingLemmas.{composed_nothing}
use Rattle.icu_normalizer.proofs.passed.PassedLemmas.{passed_twice, passed_cut, passed_all}
use Rattle.icu_normalizer.proofs.composing.cuts.rest_to_change.Goals as goal

pub clusters-init : goal.clusters-init
clusters-init g c = c.pass_low-left.ensures

pub clusters-smaller : goal.clusters-smaller
clusters-smaller g c =
    let found = rw c.in-Ok-Own.field-0-is at c.in-Ok-Own.ensures in
    let passed = c.pass_low-left-in-Ok-Own.ensures in
    omega (arith, found.1, ap length passed.behind.characters, length-append passed.prefix (g.T.Text.spelled c.pass_low-left-in-Ok-Own.result).characters)

pub clusters-preserved : goal.clusters-preserved
clusters-preserved g c =
    let form = composed (form_meaning c.args.basis) in
    let found = rw c.in-Ok-Own.field-0-is at c.in-Ok-Own.ensures in
    passed_twice g.T.Text.encode g.met.T.Text.encoding form _ _ (passed_twice g.T.Text.encode g.met.T.Text.encoding form _ _ c.clusters.invariant _ found.0) _ c.pass_low-left-in-Ok-Own.ensures

pub returns-in-Ok-Changed : goal.returns-in-Ok-Changed
returns-in-Ok-Changed g c =
    let found = rw c.in-Ok-Changed.field-0-is at c.in-Ok-Changed.ensures in
    passed_cut g.T.Text.encode g.met.T.Text.encoding (composed (form_meaning c.args.basis)) _ _ c.clusters.invariant 0x300 _ found

pub returns : goal.returns
returns g c =
    passed_all g.T.Text.encode g.met.T.Text.encoding (composed (form_meaning c.args.basis)) _ _ c.clusters.invariant 0x300 (composed_nothing (form_meaning c.args.basis))
    (c.is_at_end.ensures.0 (search rules))
