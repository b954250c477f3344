use Rattle.std.proofs.Common.{◌++◌, take, drop, ap, ◌∙◌}
use Rattle.icu_normalizer_core.specs.FormData.{form_meaning}
use Rattle.icu_normalizer.proofs.passed.SkipLemmas.{skip_begun, skip_more, skip_rest, skip_ended}
use Rattle.icu_normalizer.proofs.cuts.TextCutLemmas.{first_char, past_plain}
use Rattle.icu_normalizer.proofs.composing.mostly_unchanged.pass_low.Goals as goal

pub chars-init : goal.chars-init
chars-init g c =
    let units = (g.T.Text.spelled c.args.text).units in
    skip_begun g.T.Text.encode g.met.T.Text.encoding (form_meaning c.args.basis) c.keep_promise.ensures.forming _ _ _
    (past_plain g.T.Text.encode g.met.T.Text.encoding _ _ _ c.plain_len-plain.result c.plain_len-plain.ensures.within c.plain_len-plain.ensures.plain
    (c.behind_plain-rest.ensures.units ∙ ap (λ k. drop k units) c.saturating_sub.ensures)
    (c.behind_plain-rest.ensures.characters ∙ ap (λ k. take k units ++ (g.T.Text.spelled c.behind_plain-rest.result).characters) c.saturating_sub.ensures)
    c.behind_plain-ahead.ensures.units c.behind_plain-ahead.ensures.characters)

pub returns-in_default-first : goal.returns-in_default-first
returns-in_default-first g c = skip_rest g.T.Text.encode g.met.T.Text.encoding (form_meaning c.args.basis) _ _ _ c.chars.invariant c.keep_promise-2.ensures

pub returns-then-not-is_steady : goal.returns-then-not-is_steady
returns-then-not-is_steady g c = skip_rest g.T.Text.encode g.met.T.Text.encoding (form_meaning c.args.basis) _ _ _ c.chars.invariant c.keep_promise-2.ensures

pub chars-preserved : goal.chars-preserved
chars-preserved g c =
    skip_more g.T.Text.encode g.met.T.Text.encoding (form_meaning c.args.basis) _ _ _ c.chars.invariant _ c.in-Some-first.c
    (first_char g.T.Text.encode (g.T.Text.spelled c.chars.ahead) (g.T.Text.spelled c.in-Some.read.1) _ c.in-Some.ensures.some _ c.in-Some-first.is)
    (c.is_steady.ensures c.if-not-is_steady.false)

pub returns : goal.returns
returns g c = skip_ended g.T.Text.encode g.met.T.Text.encoding (form_meaning c.args.basis) _ _ _ c.chars.invariant c.keep_promise-2.ensures c.in_default.ensures.none
