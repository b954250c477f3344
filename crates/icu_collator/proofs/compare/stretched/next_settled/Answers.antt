use Rattle.std.proofs.Common.{◌≡◌, ◌≤◌, ◌∙◌, ◌++◌, ◌∷◌, [], ℕ, List, ap, length, refl, rules, subst, sym, take, true}
use Rattle.icu_collator_core.specs.Stretched.{settled_in}
use Rattle.icu_collator.specs.FlatOrders.{counted_primaries}
use Rattle.icu_collator.proofs.orders.CountedPrimaryLemmas.{counted_same}
use Rattle.icu_collator.proofs.orders.StretchedOrderLemmas.{as_many}
use Rattle.icu_collator.proofs.compare.stretched.next_settled.Goals as goal

pub loop-turn-init : goal.loop-turn-init
loop-turn-init g c = record { can = c.requires.can; finite = c.requires.finite; read = λ text ok h. (h, c.requires.met, refl) }

pub returns-in-Some-clause-next : goal.returns-in-Some-clause-next
returns-in-Some-clause-next g c = λ text ok h before.
    let r = c.loop-turn.invariant.read text ok h in
    let there = c.settled-settled.ensures in (
      r.0,
      subst (λ (xs : List ℕ). c.in-Some.index ≤ length xs) there c.in-Some.ensures.within,
      subst (λ (xs : List ℕ). counted_primaries c.args.end (take c.in-Some.index xs) ≡ counted_primaries c.args.end (take c.args.met xs) ++ c.in-Some.primary ∷ []) there c.in-Some.ensures.primary
          ∙ ap (λ (ps : List ℕ). ps ++ c.in-Some.primary ∷ []) r.2,
    )

pub returns-in-Some-clause-can : goal.returns-in-Some-clause-can
returns-in-Some-clause-can g c = λ p is unended. c.loop-turn.invariant.can unended

pub returns-in-Some-clause-finite : goal.returns-in-Some-clause-finite
returns-in-Some-clause-finite g c = λ p is unended. c.loop-turn.invariant.finite unended

pub returns-in-Some-clause-within : goal.returns-in-Some-clause-within
returns-in-Some-clause-within g c = λ p is. subst (λ (xs : List ℕ). c.in-Some.index ≤ length xs) c.settled-settled.ensures c.in-Some.ensures.within

pub returns-then-is_ended-clause-next : goal.returns-then-is_ended-clause-next
returns-then-is_ended-clause-next g c = λ text ok h before.
    let r = c.loop-turn.invariant.read text ok h in (
      r.0,
      sym c.is_ended.ensures ∙ c.if-is_ended.true,
      subst (λ (xs : List ℕ). counted_primaries c.args.end xs ≡ counted_primaries c.args.end (take c.args.met xs)) c.settled-settled.ensures c.in_default.ensures.none ∙ r.2,
    )

pub read_on-requires-clause-can : goal.read_on-requires-clause-can
read_on-requires-clause-can g c = c.loop-turn.invariant.can (sym c.is_ended.ensures ∙ c.if-is_ended.false)

pub read_on-requires-clause-finite : goal.read_on-requires-clause-finite
read_on-requires-clause-finite g c = c.loop-turn.invariant.finite (sym c.is_ended.ensures ∙ c.if-is_ended.false)

pub loop-turn-preserved : goal.loop-turn-preserved
loop-turn-preserved g c =
    let told : c.in_ok-is_read.is_read ≡ true = search rules in
    let on = c.in_ok-is_read.ensures.read told in
    record {
      can = c.in_ok-is_read.ensures.can told;
      finite = c.in_ok-is_read.ensures.finite told;
      read = λ text ok h.
          let r = c.loop-turn.invariant.read text ok h in
          let same = on.same text ok r.0 c.args.met r.1 in (
            on.kept text ok r.0,
            as_many c.args.met (settled_in c.loop-turn.text) (settled_in c.read_on.new.text) same r.1,
            counted_same c.args.end (take c.args.met (settled_in c.read_on.new.text)) (take c.args.met (settled_in c.loop-turn.text)) same ∙ r.2,
          );
    }
