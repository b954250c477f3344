use Rattle.std.proofs.Common.{[], ◌∷◌, ◌++◌, length, length-append, sym, ap, ◌∙◌, append-nil, arith}
use Rattle.icu_normalizer_core.specs.Canonical.{composed}
use Rattle.icu_normalizer.specs.ClusterForm.{form_left}
use Rattle.icu_normalizer.specs.Normalizers.{composing_data}
use Rattle.icu_normalizer.specs.Sinks.{nothing, more}
use Rattle.icu_normalizer.proofs.writing.SinkLemmas.{seen_more, sink_more, sink_cut, sink_part}
use Rattle.icu_normalizer.proofs.composing.normalizer.ComposingNormalizerBorrowed.write_cluster.Goals as goal

pub returns-in_default-clause-failure : goal.returns-in_default-clause-failure
returns-in_default-clause-failure g c = nothing _

pub chars-init : goal.chars-init
chars-init g c =
    let is = c.in-Ok.ensures.cluster in
    let form = composed (composing_data c.args.self.now) in (
      [],
      ap form is.whole ∙ is.apart is.cluster ∙ ap (λ l. l ++ form (g.T.Text.spelled c.in-Ok.rest).characters) (sym is.composes),
      sym (ap (λ l. g.T.WriteTo.contents c.args.sink.now ++ l) g.met.T.Text.encoding.nothing ∙ append-nil _),
      nothing _,
      c.in-Ok.ensures.begun,
    )

pub next-requires : goal.next-requires
next-requires g c = c.chars.invariant.4

pub returns-in_default-next-clause-err : goal.returns-in_default-next-clause-err
returns-in_default-next-clause-err g c =
    let now = c.chars.invariant in
    sink_cut g.T.Text.encode g.met.T.Text.encoding _ _ _ now.0 (form_left c.chars.form ++ composed (composing_data c.args.self.now) (g.T.Text.spelled c.in-Ok.rest).characters) now.1 now.2

pub returns-in_default-next-clause-failure : goal.returns-in_default-next-clause-failure
returns-in_default-next-clause-failure g c = c.chars.invariant.3

pub returns-in_default-next-2-clause-ok : goal.returns-in_default-next-2-clause-ok
returns-in_default-next-2-clause-ok g c =
    let now = c.chars.invariant in
    let rest = composed (composing_data c.args.self.now) (g.T.Text.spelled c.in-Ok.rest).characters in
    let none = rw c.in_default-next-2.is at c.in-Ok-next.ensures.left in
    let done = rw c.in_default-next-2.is at c.in-Ok-next.ensures.done in
    record {
      written = g.T.Text.encode now.0;
      whole = ap g.T.Text.encode (now.1 ∙ ap (λ l. now.0 ++ (l ++ rest)) (none ∙ done)) ∙ g.met.T.Text.encoding.append now.0 rest;
      holds = now.2;
    }

pub returns-in_default-next-2-clause-fewer : goal.returns-in_default-next-2-clause-fewer
returns-in_default-next-2-clause-fewer g c =
    let is = c.in-Ok.ensures.cluster in
    omega (arith, is.some, ap length is.whole, length-append is.cluster (g.T.Text.spelled c.in-Ok.rest).characters)

pub returns-in_default-next-2-clause-failure : goal.returns-in_default-next-2-clause-failure
returns-in_default-next-2-clause-failure g c = c.chars.invariant.3

pub returns-in-Err-clause-err : goal.returns-in-Err-clause-err
returns-in-Err-clause-err g c =
    let now = c.chars.invariant in
    let rest = composed (composing_data c.args.self.now) (g.T.Text.spelled c.in-Ok.rest).characters in
    let step = rw c.in-Some.is at c.in-Ok-next.ensures.left in
    sink_part g.T.Text.encode g.met.T.Text.encoding _ _ _ _ now.0 (form_left c.chars.form ++ rest) c.in-Some.c (form_left c.next.new.self ++ rest) now.1 (ap (λ l. l ++ rest) step) now.2 c.in-Err.ensures.err

pub returns-in-Err-clause-failure : goal.returns-in-Err-clause-failure
returns-in-Err-clause-failure g c = (_, c.chars.invariant.3, c.in-Err.ensures.failed)

pub chars-smaller : goal.chars-smaller
chars-smaller g c =
    let fewer = rw c.in-Some.is at c.in-Ok-next.ensures.fewer in omega (arith, fewer)

pub chars-preserved : goal.chars-preserved
chars-preserved g c =
    let now = c.chars.invariant in
    let rest = composed (composing_data c.args.self.now) (g.T.Text.spelled c.in-Ok.rest).characters in
    let step = rw c.in-Some.is at c.in-Ok-next.ensures.left in (
      now.0 ++ c.in-Some.c ∷ [],
      seen_more _ now.0 (form_left c.chars.form ++ rest) c.in-Some.c (form_left c.next.new.self ++ rest) now.1 (ap (λ l. l ++ rest) step),
      sink_more g.T.Text.encode g.met.T.Text.encoding _ _ _ now.0 _ now.2 c.in_default-write_char.ensures.ok,
      more _ _ _ now.3 c.in_default-write_char.ensures.taken,
      c.in-Ok-next.ensures.begun,
    )
