use Rattle.std.proofs.Common.{◌≡◌, ◌∙◌, ◌∷◌, ◌++◌, [], Option, Some, ℕ, false, subst, sym, true}
use Rattle.std.specs.Prelude.{MatchOption}
use Rattle.icu_collator_core.specs.declared.flat.primaries.NextPrimaries.{NextPrimaries}
use Rattle.icu_collator.specs.Aheads.{HasPrimary, IsLeft, IsMetAhead}
use Rattle.icu_collator.specs.FlatOrders.{does_count}
use Rattle.icu_collator.proofs.orders.AheadLemmas.{all_met, first_met, first_passed, left_otherwise, read_out, read_then}
use Rattle.icu_collator.proofs.compare.aheads.next_ahead.Goals as goal

pub loop-turn-init : goal.loop-turn-init
loop-turn-init g c = record { can = c.requires.can; finite = c.requires.finite; met = λ t ps h. h }

pub returns-then-counts-clause-next : goal.returns-then-counts-clause-next
returns-then-counts-clause-next g c = λ t ps h.
    let source = c.args.checked.now in
    let read = c.loop-turn.read in
    let counts : does_count c.args.end read.first ≡ true = sym c.counts.ensures ∙ c.if-counts.true in (
      counts,
      subst (λ (r : NextPrimaries). IsMetAhead source c.args.end c.args.numeric g.I.Iterator.next_gives t c.loop-turn.held c.loop-turn.chars r (ps ++ read.first ∷ []))
          (sym c.behind_first-read.ensures)
          (first_met source c.args.end c.args.numeric g.I.Iterator.next_gives t ps c.loop-turn.held c.loop-turn.chars read (c.loop-turn.invariant.met t ps h) counts),
    )

pub returns-then-counts-clause-can : goal.returns-then-counts-clause-can
returns-then-counts-clause-can g c = λ p is. c.loop-turn.invariant.can

pub returns-then-counts-clause-finite : goal.returns-then-counts-clause-finite
returns-then-counts-clause-finite g c = λ p is. c.loop-turn.invariant.finite

pub loop-turn-preserved-then-is_any_left : goal.loop-turn-preserved-then-is_any_left
loop-turn-preserved-then-is_any_left g c =
    let source = c.args.checked.now in
    let read = c.loop-turn.read in
    let lacks : does_count c.args.end read.first ≡ false = sym c.counts.ensures ∙ c.if-counts.false in
    record {
      can = c.loop-turn.invariant.can;
      finite = c.loop-turn.invariant.finite;
      met = λ t ps h.
          subst (λ (r : NextPrimaries). IsMetAhead source c.args.end c.args.numeric g.I.Iterator.next_gives t c.loop-turn.held c.loop-turn.chars r ps)
          (sym c.behind_first-read.ensures)
          (first_passed source c.args.end c.args.numeric g.I.Iterator.next_gives t ps c.loop-turn.held c.loop-turn.chars read (c.loop-turn.invariant.met t ps h) lacks);
    }

pub returns-in_default-clause-next : goal.returns-in_default-clause-next
returns-in_default-clause-next g c = λ t ps h.
    let source = c.args.checked.now in
    let read = c.loop-turn.read in
    let taken = c.take_next-taken in
    let before = c.loop-turn.invariant.met t ps h in
    let none : HasPrimary read false = subst (HasPrimary read) c.if-is_any_left.false c.is_any_left.ensures in
    let out : before.ahead.rest ≡ [] =
    subst (λ (o : Option ℕ). MatchOption o (before.ahead.rest ≡ []) (λ d. IsLeft g.I.Iterator.next_gives (Some d) taken.result.1 before.ahead.rest)) c.in_default.is
    (taken.ensures.taken before.ahead.rest before.ahead.left) in (
      before.items,
      read_out source c.args.numeric g.I.Iterator.next_gives t c.loop-turn.held c.loop-turn.chars read.class before.items before.ahead out,
      all_met source c.args.end c.args.numeric g.I.Iterator.next_gives t ps c.loop-turn.held c.loop-turn.chars read before none,
    )

pub loop-turn-preserved : goal.loop-turn-preserved
loop-turn-preserved g c =
    let source = c.args.checked.now in
    let read = c.loop-turn.read in
    let taken = c.take_next-taken in
    let next = c.in-Some-read_ahead in
    record {
      can = next.ensures.can;
      finite = next.ensures.finite;
      met = λ t ps h.
          let before = c.loop-turn.invariant.met t ps h in
          let none : HasPrimary read false = subst (HasPrimary read) c.if-is_any_left.false c.is_any_left.ensures in
          let left : IsLeft g.I.Iterator.next_gives (Some c.in-Some.c) taken.result.1 before.ahead.rest =
          subst (λ (o : Option ℕ). MatchOption o (before.ahead.rest ≡ []) (λ d. IsLeft g.I.Iterator.next_gives (Some d) taken.result.1 before.ahead.rest)) c.in-Some.is
          (taken.ensures.taken before.ahead.rest before.ahead.left) in
          let there = left_otherwise source c.args.numeric g.I.Iterator.next_gives t c.loop-turn.held (Some c.in-Some.c) c.loop-turn.chars taken.result.1 read.class before.items before.ahead left in
          read_then source c.args.end c.args.numeric g.I.Iterator.next_gives t ps c.loop-turn.held next.next.held c.loop-turn.chars next.next.chars read next.next.read before none
          (next.ensures.read t before.items there);
    }
