use Rattle.std.proofs.Common.{rules, [], ◌++◌, refl, sym, ap, ◌∙◌, append-nil, arith}
use Rattle.std.specs.Prelude.{Err, ⊤}
use Rattle.icu_normalizer_core.specs.Canonical.{composed}
use Rattle.icu_normalizer.specs.Normalizers.{composing_data}
use Rattle.icu_normalizer.specs.Sinks.{nothing, more}
use Rattle.icu_normalizer.proofs.composed.ComposingLemmas.{composed_nothing}
use Rattle.icu_normalizer.proofs.writing.SinkLemmas.{joined_front, taken_both, ends_after}
use Rattle.icu_normalizer.proofs.writing.WriterLemmas.{front_more, front_cut, front_all}
use Rattle.icu_normalizer.proofs.composing.normalizer.ComposingNormalizerBorrowedWriteForm.write_rest.Goals as goal

pub clusters-init : goal.clusters-init
clusters-init g c = (record { written = []; whole = refl; holds = sym (append-nil _) }, nothing _)

pub returns-in-Err-clause-err : goal.returns-in-Err-clause-err
returns-in-Err-clause-err g c = front_cut _ _ _ _ _ c.clusters.invariant.0 c.in-Err.ensures.err

pub returns-in-Err-clause-failure : goal.returns-in-Err-clause-failure
returns-in-Err-clause-failure g c =
    ends_after {A = ⊤} g.T.WriteTo.takes g.T.WriteTo.fails _ _ (Err c.in-Err.error) _ c.clusters.invariant.1 c.in-Err.ensures.failure

pub returns-in-Err-write_whole-clause-err : goal.returns-in-Err-write_whole-clause-err
returns-in-Err-write_whole-clause-err g c =
    front_cut _ _ _ _ _ (front_more _ _ _ _ _ _ c.clusters.invariant.0 c.in-Ok.ensures.ok) (joined_front _ _ _ _ _ (sym c.split_low-plain.ensures.stays) c.in-Err-write_whole.ensures.err)

pub returns-in-Err-write_whole-clause-failure : goal.returns-in-Err-write_whole-clause-failure
returns-in-Err-write_whole-clause-failure g c =
    (_, taken_both _ _ _ c.clusters.invariant.1 c.in-Ok.ensures.failure, c.in-Err-write_whole.ensures.failed)

pub clusters-smaller : goal.clusters-smaller
clusters-smaller g c = let fewer = c.in-Ok.ensures.fewer in let less = c.split_low-plain.ensures.fewer in omega (arith, fewer, less)

pub clusters-preserved : goal.clusters-preserved
clusters-preserved g c = (
  front_more _ _ _ _ _ _ (front_more _ _ _ _ _ _ c.clusters.invariant.0 c.in-Ok.ensures.ok)
      (record { written = _; whole = c.split_low-plain.ensures.stays; holds = c.in_default.ensures.ok }),
  more _ _ _ (taken_both _ _ _ c.clusters.invariant.1 c.in-Ok.ensures.failure) c.in_default.ensures.taken,
)

pub returns-clause-ok : goal.returns-clause-ok
returns-clause-ok g c =
    let end = c.is_at_end.ensures.0 (search rules) in
    let form = composed (composing_data c.args.self.now) in
    front_all _ _ _ _ _ c.clusters.invariant.0
    (sym (ap (λ l. g.T.WriteTo.contents c.clusters.sink ++ l) (ap (λ cs. g.T.Text.encode (form cs)) end.1 ∙ ap g.T.Text.encode (composed_nothing (composing_data c.args.self.now)) ∙ g.met.T.Text.encoding.nothing) ∙ append-nil _))

pub returns-clause-failure : goal.returns-clause-failure
returns-clause-failure g c = c.clusters.invariant.1
