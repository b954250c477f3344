use Rattle.std.proofs.Common.{◌++◌, take, drop, ap, ◌∙◌, arith}
use Rattle.icu_normalizer_core.specs.FormData.{form_meaning, low_bound}
use Rattle.icu_normalizer.proofs.cuts.CutLemmas.{readable}
use Rattle.icu_normalizer.proofs.cuts.TextCutLemmas.{first_char, first_damaged, past_plain}
use Rattle.icu_normalizer.proofs.passed.TextWalkLemmas.{walk_begun, walk_starter, walk_mark, walk_ended, walk_out, walk_damaged}
use Rattle.icu_normalizer.proofs.decomposing.cuts.rest_to_change.Goals as goal

pub chars-init : goal.chars-init
chars-init g c =
    let units = (g.T.Text.spelled c.args.text).units in
    walk_begun g.T.Text.encode g.met.T.Text.encoding (form_meaning c.args.basis) c.keep_promise.ensures.forming _ _ _
    (past_plain g.T.Text.encode g.met.T.Text.encoding _ _ _ c.plain_len-plain.result c.plain_len-plain.ensures.within c.plain_len-plain.ensures.plain
    (c.behind_plain-rest.ensures.units ∙ ap (λ k. drop k units) c.saturating_sub.ensures)
    (c.behind_plain-rest.ensures.characters ∙ ap (λ k. take k units ++ (g.T.Text.spelled c.behind_plain-rest.result).characters) c.saturating_sub.ensures)
    c.behind_plain-ahead.ensures.units c.behind_plain-ahead.ensures.characters)

pub class_in_place-requires : goal.class_in_place-requires
class_in_place-requires g c = readable _ c.keep_promise.ensures.forming

pub returns-in_default-first : goal.returns-in_default-first
returns-in_default-first g c =
    walk_damaged g.T.Text.encode g.met.T.Text.encoding _ c.keep_promise.ensures.forming _ _ _ c.chars.before (low_bound c.args.basis) c.keep_promise.ensures.low c.chars.invariant c.keep_promise-2.ensures
    _ (let fewer = c.in-Some.ensures.fewer in omega arith) (first_damaged g.T.Text.encode (g.T.Text.spelled c.chars.ahead) (g.T.Text.spelled c.in-Some.read.1) _ c.in-Some.ensures.some c.in_default-first.is)

pub returns-in_default-class_in_place : goal.returns-in_default-class_in_place
returns-in_default-class_in_place g c =
    walk_out g.T.Text.encode g.met.T.Text.encoding _ c.keep_promise.ensures.forming _ _ _ c.chars.before (low_bound c.args.basis) c.keep_promise.ensures.low c.chars.invariant c.keep_promise-2.ensures
    _ c.in-Some-first.c (let fewer = c.in-Some.ensures.fewer in omega arith) (first_char g.T.Text.encode (g.T.Text.spelled c.chars.ahead) (g.T.Text.spelled c.in-Some.read.1) _ c.in-Some.ensures.some _ c.in-Some-first.is) c.in_default-class_in_place.ensures.none

pub chars-preserved-then-class-eq0 : goal.chars-preserved-then-class-eq0
chars-preserved-then-class-eq0 g c =
    let here = c.in-Some-class_in_place.ensures in
    walk_starter g.T.Text.encode g.met.T.Text.encoding _ c.keep_promise.ensures.forming _ _ _ _ c.chars.before c.in-Some-first.c _ c.chars.invariant
    (first_char g.T.Text.encode (g.T.Text.spelled c.chars.ahead) (g.T.Text.spelled c.in-Some.read.1) _ c.in-Some.ensures.some _ c.in-Some-first.is) here.some here.class c.if-class-eq0.true

pub chars-preserved : goal.chars-preserved
chars-preserved g c =
    let here = c.in-Some-class_in_place.ensures in
    walk_mark g.T.Text.encode g.met.T.Text.encoding _ c.keep_promise.ensures.forming _ _ _ _ c.chars.before c.in-Some-first.c _ c.chars.invariant
    (first_char g.T.Text.encode (g.T.Text.spelled c.chars.ahead) (g.T.Text.spelled c.in-Some.read.1) _ c.in-Some.ensures.some _ c.in-Some-first.is) here.some here.class (let mark = c.if-class-eq0.false in omega arith)

pub returns : goal.returns
returns g c =
    walk_ended g.T.Text.encode g.met.T.Text.encoding _ c.keep_promise.ensures.forming _ _ _ c.chars.before (low_bound c.args.basis) c.keep_promise.ensures.low c.chars.invariant c.keep_promise-2.ensures
    c.in_default.ensures.none
