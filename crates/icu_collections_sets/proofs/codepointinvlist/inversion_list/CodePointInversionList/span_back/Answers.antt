use Rattle.std.proofs.Common.{◌≡◌, ℕ, refl, ap, ◌∙◌, arith}
use Rattle.std.specs.Prelude.{Bool, true, false, IsTrue, ◌↔◌}
use Rattle.std.proofs.Common.{rules}
use Rattle.std.specs.Iterator.Adapters.{rev_source}
use Rattle.icu_collections_sets.specs.CodePoints.{holds}
use Rattle.icu_collections_sets.proofs.sets.SpanLemmas.{Behind-start, Behind-more, Behind-boundary, Behind-all, Behind-next, none_before}
use Rattle.icu_collections_sets.proofs.codepointinvlist.inversion_list.CodePointInversionList.span_back.Goals as goal

fails : {Q : Type 0} (b : Bool) → b ≡ false → (IsTrue b ↔ Q) → ¬ Q
fails true h so = absurd (search (rules, h))
fails false h so = λ q. absurd (search (rules, so.1 q))

pub loop-index-init : goal.loop-index-init
loop-index-init c =
    let P = λ (x : ℕ). holds c.args.self.now x ≡ c.args.held in
    let items = c.char_indices.ensures in
    let source = ap rev_source c.into_iter-index-iterator.ensures.into_iter_gives ∙ c.rev-index-items.ensures.source in
    rw (source, items.rest, items.offset) (refl, refl, Behind-start P c.args.text.now c.utf8.text)

pub returns-then-not-is_so-clause-boundary : goal.returns-then-not-is_so-clause-boundary
returns-then-not-is_so-clause-boundary c =
    let P = λ (x : ℕ). holds c.args.self.now x ≡ c.args.held in
    rw c.loop-index.invariant.1 (Behind-boundary P c.args.text.now _ c.loop-index.invariant.2)

pub returns-then-not-is_so-clause-suffix : goal.returns-then-not-is_so-clause-suffix
returns-then-not-is_so-clause-suffix c =
    let P = λ (x : ℕ). holds c.args.self.now x ≡ c.args.held in
    rw c.loop-index.invariant.1 (Behind-all P c.args.text.now _ c.loop-index.invariant.2)

pub returns-then-not-is_so-clause-longest : goal.returns-then-not-is_so-clause-longest
returns-then-not-is_so-clause-longest c =
    let P = λ (x : ℕ). holds c.args.self.now x ≡ c.args.held in
    rw c.loop-index.invariant.1
    (Behind-next P c.args.text.now _ _ _ c.is_so.ensures.scalar c.loop-index.invariant.2 c.in-Some.ensures.steps.1.0 (fails _ c.if-not-is_so.true c.is_so.ensures.so))

pub loop-index-preserved : goal.loop-index-preserved
loop-index-preserved c =
    let P = λ (x : ℕ). holds c.args.self.now x ≡ c.args.held in
    let steps = c.in-Some.ensures.steps in (
      steps.0 ∙ c.loop-index.invariant.0,
      omega (arith, steps.1.1, c.loop-index.invariant.0),
      Behind-more P c.args.text.now _ _ _ c.is_so.ensures.scalar c.loop-index.invariant.2 steps.1.0 (c.is_so.ensures.so.0 c.if-not-is_so.false),
    )

pub returns-clause-boundary : goal.returns-clause-boundary
returns-clause-boundary c =
    let P = λ (x : ℕ). holds c.args.self.now x ≡ c.args.held in
    rw c.loop-index.invariant.1 (Behind-boundary P c.args.text.now _ c.loop-index.invariant.2)

pub returns-clause-longest : goal.returns-clause-longest
returns-clause-longest c =
    none_before (λ x. holds c.args.self.now x ≡ c.args.held) c.args.text.now _ (c.loop-index.invariant.1 ∙ c.in-None.ensures.steps.1.0)
