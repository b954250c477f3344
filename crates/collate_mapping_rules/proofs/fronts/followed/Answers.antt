use Rattle.std.proofs.Common.{◌≡◌, ◌≢◌, ◌-◌, [], ◌∷◌, ◌++◌, length, sym, ap, ◌∙◌, arith}
use Rattle.std.proofs.lemmas.Bool.{eqb-true, eqb-false}
use Rattle.std.proofs.lemmas.List.{nil_from_length}
use Rattle.collate_mapping_rules.proofs.lists.AheadLemmas.{fewer_alone, fewer_on, followed_alone, followed_on, put_read}
use Rattle.collate_mapping_rules.proofs.fronts.followed.Goals as goal

pub loop-ahead-smaller-then-is_empty : goal.loop-ahead-smaller-then-is_empty
loop-ahead-smaller-then-is_empty g c =
    fewer_alone (g.S.Steps.step c.args.steps.now) c.loop-ahead.stack.items c.pop.new.self.items c.in-Some.ahead c.in-Some.ensures.items
    c.step_within.new.given.items c.in_ok-step_within.ensures

pub loop-ahead-preserved-then-is_empty : goal.loop-ahead-preserved-then-is_empty
loop-ahead-preserved-then-is_empty g c =
    let none : c.step_within.new.given.items ≡ [] =
    nil_from_length c.step_within.new.given.items
    (let t = eqb-true _ _ (sym c.is_empty.ensures ∙ c.if-is_empty.true) in let l = c.step_within.new.given.ok.0 in omega arith) in (
      c.loop-ahead.invariant.0 ++ c.in-Some.ahead.character ∷ [],
      c.with-front.ensures c.loop-ahead.invariant.0 c.loop-ahead.invariant.1,
      followed_alone (g.S.Steps.step c.args.steps.now) c.loop-ahead.stack.items c.pop.new.self.items c.in-Some.ahead c.in-Some.ensures.items
          c.step_within.new.given.items c.in_ok-step_within.ensures c.loop-ahead.invariant.0 _ none c.loop-ahead.invariant.2,
    )

pub loop-ahead-smaller : goal.loop-ahead-smaller
loop-ahead-smaller g c =
    let some : c.step_within.new.given.items ≢ [] = λ e.
    let n : length c.step_within.new.given.items ≡ 0 = ap length e in
    let l = c.step_within.new.given.ok.0 in
    eqb-false _ _ (sym c.is_empty.ensures ∙ c.if-is_empty.false) (omega arith) in
    fewer_on (g.S.Steps.step c.args.steps.now) c.loop-ahead.stack.items c.pop.new.self.items c.in-Some.ahead c.in-Some.ensures.items
    c.step_within.new.given.items c.in_ok-step_within.ensures c.put_ahead.new.stack.items some
    (put_read c.pop.new.self.items c.put_ahead.new.stack.items (c.in-Some.ahead.limit - 1) c.deref.result.now c.step_within.new.given.items c.in_ok-put_ahead.ensures c.deref.ensures.value)

pub loop-ahead-preserved : goal.loop-ahead-preserved
loop-ahead-preserved g c =
    let some : c.step_within.new.given.items ≢ [] = λ e.
    let n : length c.step_within.new.given.items ≡ 0 = ap length e in
    let l = c.step_within.new.given.ok.0 in
    eqb-false _ _ (sym c.is_empty.ensures ∙ c.if-is_empty.false) (omega arith) in (
      c.loop-ahead.invariant.0,
      c.loop-ahead.invariant.1,
      followed_on (g.S.Steps.step c.args.steps.now) c.loop-ahead.stack.items c.pop.new.self.items c.in-Some.ahead c.in-Some.ensures.items
          c.step_within.new.given.items c.in_ok-step_within.ensures c.loop-ahead.invariant.0 _ c.put_ahead.new.stack.items some
          (put_read c.pop.new.self.items c.put_ahead.new.stack.items (c.in-Some.ahead.limit - 1) c.deref.result.now c.step_within.new.given.items c.in_ok-put_ahead.ensures c.deref.ensures.value)
          c.loop-ahead.invariant.2,
    )
