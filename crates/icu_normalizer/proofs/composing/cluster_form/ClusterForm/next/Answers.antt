use Rattle.std.proofs.Common.{◌≡◌, [], ◌∙◌, arith}
use Rattle.icu_normalizer_core.specs.Run.{held, reordered}
use Rattle.icu_normalizer.proofs.composed.ClusterFormLemmas.{left_pushed, left_ended, left_done}
use Rattle.icu_normalizer.proofs.composing.cluster_form.ClusterForm.next.Goals as goal

pub loop-c-init : goal.loop-c-init
loop-c-init c = (
  c.in_default.ensures.output.at (reordered c.args.self.now.run []),
  c.in_default.ensures.composing,
  omega (arith, c.in_default.ensures.fewer),
  c.requires,
  c.in_default.ensures.same,
)

pub push-requires : goal.push-requires
push-requires c = c.loop-c.invariant.1

pub returns-in_err-out-clause-same : goal.returns-in_err-out-clause-same
returns-in_err-out-clause-same c = c.in_err-out.ensures.same ∙ c.loop-c.invariant.4

pub returns-in-Some-2-clause-left : goal.returns-in-Some-2-clause-left
returns-in-Some-2-clause-left c =
    let pushed = rw c.in-Some-2.is at c.in_ok-out.ensures.output in
    c.loop-c.invariant.0 ∙ left_pushed _ _ _ _ c.in-Some-pop.c _ c.in-Some-pop.ensures.some pushed

pub returns-in-Some-2-clause-fewer : goal.returns-in-Some-2-clause-fewer
returns-in-Some-2-clause-fewer c =
    let fewer = rw c.in-Some-2.is at c.in_ok-out.ensures.fewer in
    omega (arith, fewer, c.in-Some-pop.ensures.fewer, c.loop-c.invariant.2)

pub returns-in-Some-2-clause-begun : goal.returns-in-Some-2-clause-begun
returns-in-Some-2-clause-begun c = c.in-Some-pop.ensures.pending ∙ c.loop-c.invariant.3

pub returns-in-Some-2-clause-same : goal.returns-in-Some-2-clause-same
returns-in-Some-2-clause-same c = c.in_ok-out.ensures.same ∙ c.loop-c.invariant.4

pub loop-c-smaller : goal.loop-c-smaller
loop-c-smaller c = c.in-Some-pop.ensures.fewer

pub loop-c-preserved : goal.loop-c-preserved
loop-c-preserved c =
    let pushed = rw c.in_default-2.is at c.in_ok-out.ensures.output in
    let fewer = rw c.in_default-2.is at c.in_ok-out.ensures.fewer in
    let composing = rw c.in_default-2.is at c.in_ok-out.ensures.composing in (
      c.loop-c.invariant.0 ∙ left_pushed _ _ _ _ c.in-Some-pop.c _ c.in-Some-pop.ensures.some pushed,
      composing,
      omega (arith, fewer, c.in-Some-pop.ensures.fewer, c.loop-c.invariant.2),
      c.in-Some-pop.ensures.pending ∙ c.loop-c.invariant.3,
      c.in_ok-out.ensures.same ∙ c.loop-c.invariant.4,
    )

pub finish-requires : goal.finish-requires
finish-requires c = c.loop-c.invariant.1

pub returns-clause-left : goal.returns-clause-left
returns-clause-left c =
    let empty : held c.pop-in-loop-c.new.self ≡ 0 = c.in_default-pop.ensures.none.1 ∙ c.in_default-pop.ensures.pending ∙ c.loop-c.invariant.3 in
    c.loop-c.invariant.0 ∙ left_ended _ _ _ _ _ c.in_default-pop.ensures.none.0 empty c.finish.ensures.output

pub returns-clause-done : goal.returns-clause-done
returns-clause-done c =
    let empty : held c.pop-in-loop-c.new.self ≡ 0 = c.in_default-pop.ensures.none.1 ∙ c.in_default-pop.ensures.pending ∙ c.loop-c.invariant.3 in
    left_done _ _ _ empty c.finish.ensures.done

pub returns-clause-fewer : goal.returns-clause-fewer
returns-clause-fewer c = omega (arith, c.finish.ensures.fewer, c.in_default-pop.ensures.held, c.loop-c.invariant.2)

pub returns-clause-begun : goal.returns-clause-begun
returns-clause-begun c = c.in_default-pop.ensures.pending ∙ c.loop-c.invariant.3

pub returns-clause-same : goal.returns-clause-same
returns-clause-same c = c.finish.ensures.same ∙ c.loop-c.invariant.4
