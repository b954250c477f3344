use Rattle.std.proofs.Common.{◌≡◌, ℕ, refl, sym, subst}
use Rattle.std.specs.Prelude.{Bool, true, false, IsTrue, ◌↔◌}
use Rattle.std.proofs.Common.{rules}
use Rattle.std.specs.Str.Iter.{char_indices_offset, char_indices_rest}
use Rattle.icu_collections_sets.specs.CodePoints.{holds}
use Rattle.icu_collections_sets.proofs.sets.SpanLemmas.{UpTo, UpTo-start, UpTo-more, UpTo-boundary, UpTo-all, UpTo-next, UpTo-end, none_next}
use Rattle.icu_collections_sets.proofs.codepointinvlist.inversion_list.CodePointInversionList.span.Goals as goal

fails : {Q : Type 0} (b : Bool) → b ≡ false → (IsTrue b ↔ Q) → ¬ Q
fails true h so = absurd (search (rules, h))
fails false h so = λ q. absurd (search (rules, so.1 q))

pub loop-index-init : goal.loop-index-init
loop-index-init c =
    let P = λ (x : ℕ). holds c.args.self.now x ≡ c.args.held in
    let items = c.char_indices-index-items.ensures in
    subst (λ t. UpTo P c.args.text.now (char_indices_rest t) (char_indices_offset t)) (sym c.into_iter-index-iterator.ensures.into_iter_gives)
    (rw (items.rest, items.offset) (UpTo-start P c.args.text.now c.utf8.text))

pub returns-then-not-is_so-clause-boundary : goal.returns-then-not-is_so-clause-boundary
returns-then-not-is_so-clause-boundary c =
    let P = λ (x : ℕ). holds c.args.self.now x ≡ c.args.held in
    rw c.in-Some.ensures.steps.0 (UpTo-boundary P c.args.text.now _ _ c.loop-index.invariant)

pub returns-then-not-is_so-clause-prefix : goal.returns-then-not-is_so-clause-prefix
returns-then-not-is_so-clause-prefix c =
    let P = λ (x : ℕ). holds c.args.self.now x ≡ c.args.held in
    rw c.in-Some.ensures.steps.0 (UpTo-all P c.args.text.now _ _ c.loop-index.invariant)

pub returns-then-not-is_so-clause-longest : goal.returns-then-not-is_so-clause-longest
returns-then-not-is_so-clause-longest c =
    let P = λ (x : ℕ). holds c.args.self.now x ≡ c.args.held in
    rw c.in-Some.ensures.steps.0 (UpTo-next P c.args.text.now _ _ _ _ c.loop-index.invariant c.in-Some.ensures.steps.1 (fails _ c.if-not-is_so.true c.is_so.ensures.so))

pub loop-index-preserved : goal.loop-index-preserved
loop-index-preserved c =
    let P = λ (x : ℕ). holds c.args.self.now x ≡ c.args.held in
    let more = UpTo-more P c.args.text.now _ _ _ _ c.loop-index.invariant c.in-Some.ensures.steps.1 (c.is_so.ensures.so.0 c.if-not-is_so.false) in
    rw c.in-Some.ensures.steps.2 more

pub returns-clause-prefix : goal.returns-clause-prefix
returns-clause-prefix c =
    let P = λ (x : ℕ). holds c.args.self.now x ≡ c.args.held in
    let end = UpTo-end P c.args.text.now _ _ c.loop-index.invariant c.in-None.ensures.steps.0 in
    rw (← end) (UpTo-all P c.args.text.now _ _ c.loop-index.invariant)

pub returns-clause-longest : goal.returns-clause-longest
returns-clause-longest c = none_next (λ x. holds c.args.self.now x ≡ c.args.held) c.args.text.now _ refl
