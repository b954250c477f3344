use Rattle.std.proofs.Common.{◌∷◌, ap, ◌∙◌, arith}
use Rattle.icu_normalizer_core.specs.FormData.{form_meaning}
use Rattle.icu_normalizer.specs.ClusterForm.{form_left}
use Rattle.icu_normalizer.proofs.composed.ComposedWalkLemmas.{beside_begun, beside_looked, beside_more, beside_own, beside_ended, beside_damaged, beside_other}
use Rattle.icu_normalizer.proofs.cuts.TextCutLemmas.{first_char, first_damaged}
use Rattle.icu_normalizer.proofs.composing.cuts.read_cluster.Goals as goal

pub chars-init : goal.chars-init
chars-init g c = (
  beside_begun g.T.Text.encode g.met.T.Text.encoding (form_meaning c.args.basis) (g.T.Text.spelled c.args.text) _ _ c.in-Ok.ensures.cluster,
  c.in-Ok.ensures.begun,
)

pub next-requires : goal.next-requires
next-requires g c = c.chars.invariant.1

pub returns-in_default-next-2 : goal.returns-in_default-next-2
returns-in_default-next-2 g c =
    let none = rw c.in_default-next-2.is at c.in-Ok-next.ensures.left in
    let done = rw c.in_default-next-2.is at c.in-Ok-next.ensures.done in
    beside_own g.T.Text.encode g.met.T.Text.encoding (form_meaning c.args.basis) _ _ _ (form_left c.chars.form) c.chars.invariant.0 c.keep_promise.ensures.forming c.keep_promise-2.ensures (none ∙ done)

pub returns-in_default-split_char : goal.returns-in_default-split_char
returns-in_default-split_char g c =
    let step = rw c.in-Some.is at c.in-Ok-next.ensures.left in
    absurd
    (beside_ended g.T.Text.encode g.met.T.Text.encoding (form_meaning c.args.basis) _ _ _ (form_left c.chars.form) c.chars.invariant.0 c.keep_promise.ensures.forming c.keep_promise-2.ensures
    c.in-Some.composed (form_left c.next.new.self) c.in_default-split_char.ensures.none step)

pub returns-in_default-first : goal.returns-in_default-first
returns-in_default-first g c =
    beside_damaged g.T.Text.encode g.met.T.Text.encoding (form_meaning c.args.basis) _ _ _ (form_left c.chars.form) c.chars.invariant.0 c.keep_promise.ensures.forming c.keep_promise-2.ensures
    _ (let fewer = c.in-Some-split_char.ensures.fewer in omega arith)
    (first_damaged g.T.Text.encode (g.T.Text.spelled c.chars.ahead) (g.T.Text.spelled c.in-Some-split_char.read.1) _ c.in-Some-split_char.ensures.some c.in_default-first.is)

pub returns-then-composed-c : goal.returns-then-composed-c
returns-then-composed-c g c =
    let begins = first_char g.T.Text.encode (g.T.Text.spelled c.chars.ahead) (g.T.Text.spelled c.in-Some-split_char.read.1) _ c.in-Some-split_char.ensures.some _ c.in-Some-first.is in
    let looked = beside_looked g.T.Text.encode g.met.T.Text.encoding (form_meaning c.args.basis) _ _ _ (form_left c.chars.form) c.chars.invariant.0 (g.T.Text.spelled c.later_rest-rest.result) _ c.in-Some-first.c begins
    (let fewer = c.in-Some-split_char.ensures.fewer in omega arith) c.later_rest-rest.ensures.low c.later_rest-rest.ensures.high in
    let step = rw c.in-Some.is at c.in-Ok-next.ensures.left in
    beside_other g.T.Text.encode g.met.T.Text.encoding (form_meaning c.args.basis) _ _ _ (form_left c.chars.form) c.chars.invariant.0 c.keep_promise.ensures.forming c.keep_promise-2.ensures
    _ _ c.in-Some-first.c _ _ looked step c.if-composed-c.true

pub chars-smaller : goal.chars-smaller
chars-smaller g c = c.in-Some-split_char.ensures.fewer

pub chars-preserved : goal.chars-preserved
chars-preserved g c =
    let begins = first_char g.T.Text.encode (g.T.Text.spelled c.chars.ahead) (g.T.Text.spelled c.in-Some-split_char.read.1) _ c.in-Some-split_char.ensures.some _ c.in-Some-first.is in
    let looked = beside_looked g.T.Text.encode g.met.T.Text.encoding (form_meaning c.args.basis) _ _ _ (form_left c.chars.form) c.chars.invariant.0 (g.T.Text.spelled c.later_rest-rest.result) _ c.in-Some-first.c begins
    (let fewer = c.in-Some-split_char.ensures.fewer in omega arith) c.later_rest-rest.ensures.low c.later_rest-rest.ensures.high in
    let step = rw c.in-Some.is at c.in-Ok-next.ensures.left in
    let left = form_left c.next.new.self in (
      beside_more g.T.Text.encode g.met.T.Text.encoding (form_meaning c.args.basis) _ _ _ (form_left c.chars.form) c.chars.invariant.0 _ _ c.in-Some-first.c left looked (step ∙ ap (λ y. y ∷ left) c.if-composed-c.false),
      c.in-Ok-next.ensures.begun,
    )
