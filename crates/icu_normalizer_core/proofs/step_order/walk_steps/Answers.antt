use Rattle.std.proofs.Common.{◌≡◌, ◌<◌, ℕ, List, ◌++◌, ◌∷◌, [], true, false, Some, None, sym, ap, ◌∙◌, map}
use Rattle.std.specs.BTreeMap.{get, is_at}
use Rattle.std.specs.Map.{lookup}
use Rattle.std.proofs.lemmas.List.Elements.{All-nil, All-push, All-same}
use Rattle.std.specs.Ordering.{nat_cmp}
use Rattle.icu_normalizer_core.specs.StepVisits.{to_be_entered}
use Rattle.icu_normalizer_core.specs.declared.step_order.Visit.{Visit}
use Rattle.icu_normalizer_core.proofs.steps.StepStackLemmas.{stack_grown, walk_begun, walk_passed, walk_left, walk_closed, walk_entered, less_left, less_entered}
use Rattle.icu_normalizer_core.proofs.steps.StepOrderLemmas.{order_fits}
use Rattle.icu_normalizer_core.proofs.step_order.walk_steps.Goals as goal
use Rattle.icu_normalizer_core.proofs.step_order.walk_steps.Given.{Over}

pub loop-visit-init : goal.loop-visit-init
loop-visit-init g c =
    record {
      walking =
          walk_begun _ _ _ _ _ c.new-order.ensures.items (λ d. ap (lookup (is_at (nat_cmp d))) c.new-is_left.ensures.empty)
          (c.in_ok-add_unentered.ensures ∙ ap (λ (s : List Visit). s ++ map to_be_entered c.args.starts.now) c.new-stack.ensures.items);
      in_range = All-same (λ n. n < 1114112) _ [] c.new-order.ensures.items (All-nil _);
    }

pub loop-visit-smaller-then-visit : goal.loop-visit-smaller-then-visit
loop-visit-smaller-then-visit g c =
    less_left (g.S.Steps.step c.args.steps.now) c.args.starts.now c.loop-visit.stack.items c.pop.new.self.items c.in-Some.visit c.in-Some.ensures.items
    (λ d. get nat_cmp c.loop-visit.is_left d) (λ d. get nat_cmp c.note.new.is_left d) 0x110000 c.loop-visit.order.items c.loop-visit.invariant.walking c.if-visit.true c.in_ok-note.ensures.noted

pub loop-visit-preserved-then-visit : goal.loop-visit-preserved-then-visit
loop-visit-preserved-then-visit g c =
    record {
      walking =
          walk_left (g.S.Steps.step c.args.steps.now) c.args.starts.now c.loop-visit.stack.items c.pop.new.self.items c.in-Some.visit c.in-Some.ensures.items
          c.loop-visit.order.items _ (λ d. get nat_cmp c.loop-visit.is_left d) (λ d. get nat_cmp c.note.new.is_left d) c.loop-visit.invariant.walking c.if-visit.true c.in_ok-push.ensures.items c.in_ok-note.ensures.noted;
      in_range = All-same (λ n. n < 1114112) _ _ c.in_ok-push.ensures.items (All-push (λ n. n < 1114112) c.loop-visit.order.items c.in-Some.visit.character c.loop-visit.invariant.in_range c.note.ensures.in_range);
    }

pub loop-visit-preserved-in-Some-true : goal.loop-visit-preserved-in-Some-true
loop-visit-preserved-in-Some-true g c =
    let known : get nat_cmp c.loop-visit.is_left c.in-Some.visit.character ≡ Some true = sym c.get.ensures.value ∙ sym c.in-Some-true.ensures ∙ ap Some c.in-Some-true.field-0-test in
    record {
      walking =
          walk_passed (g.S.Steps.step c.args.steps.now) c.args.starts.now c.loop-visit.stack.items c.pop.new.self.items c.in-Some.visit c.in-Some.ensures.items
          c.loop-visit.order.items (λ d. get nat_cmp c.loop-visit.is_left d) c.loop-visit.invariant.walking c.if-visit.false known;
      in_range = c.loop-visit.invariant.in_range;
    }

pub returns-in-Some-false : goal.returns-in-Some-false
returns-in-Some-false g c =
    let known : get nat_cmp c.loop-visit.is_left c.in-Some.visit.character ≡ Some false = sym c.get.ensures.value ∙ sym c.in-Some-false.ensures ∙ ap Some c.in-Some-false.field-0-test in
    record {
      walked = walk_closed (g.S.Steps.step c.args.steps.now) c.args.starts.now c.loop-visit.stack.items c.pop.new.self.items c.in-Some.visit c.in-Some.ensures.items
          c.loop-visit.order.items (λ d. get nat_cmp c.loop-visit.is_left d) c.loop-visit.invariant.walking c.if-visit.false known;
      few = tt;
    }

-- the stack once a character is entered
grown : (g : Over) (c : goal.In_ok-add_unentered-in-None g)
    → c.add_unentered-in-None.new.stack.items
    ≡ (c.pop.new.self.items ++ record { character = c.in-Some.visit.character; is_entered = true } ∷ [])
    ++ map to_be_entered (g.S.Steps.step c.args.steps.now c.in-Some.visit.character)
grown g c =
    let stepped : List ℕ = g.S.Steps.step c.args.steps.now c.in-Some.visit.character in
    stack_grown c.pop.new.self.items c.push-in-None.new.self.items c.add_unentered-in-None.new.stack.items _ c.deref.result.now stepped
    c.in_ok-push-in-None.ensures.items c.in_ok-add_unentered-in-None.ensures
    (c.deref.ensures.value ∙ c.in_ok-add_step-in-None.ensures ∙ ap (λ (l : List ℕ). l ++ stepped) c.clear.ensures.items)

pub loop-visit-smaller : goal.loop-visit-smaller
loop-visit-smaller g c =
    let free : get nat_cmp c.loop-visit.is_left c.in-Some.visit.character ≡ None = sym c.get.ensures.value ∙ sym c.in-None.ensures in
    less_entered (g.S.Steps.step c.args.steps.now) c.args.starts.now c.loop-visit.stack.items c.pop.new.self.items c.in-Some.visit c.in-Some.ensures.items
    (λ d. get nat_cmp c.loop-visit.is_left d) (λ d. get nat_cmp c.note-in-None.new.is_left d) 0x110000 _ c.note-in-None.ensures.in_range free c.in_ok-note-in-None.ensures.noted
    (grown g c)

pub loop-visit-preserved : goal.loop-visit-preserved
loop-visit-preserved g c =
    let free : get nat_cmp c.loop-visit.is_left c.in-Some.visit.character ≡ None = sym c.get.ensures.value ∙ sym c.in-None.ensures in
    record {
      walking =
          walk_entered (g.S.Steps.step c.args.steps.now) c.args.starts.now c.loop-visit.stack.items c.pop.new.self.items c.in-Some.visit c.in-Some.ensures.items
          c.loop-visit.order.items (λ d. get nat_cmp c.loop-visit.is_left d) (λ d. get nat_cmp c.note-in-None.new.is_left d) _ c.loop-visit.invariant.walking free c.in_ok-note-in-None.ensures.noted
          (grown g c);
      in_range = c.loop-visit.invariant.in_range;
    }

pub returns-clause-few : goal.returns-clause-few
returns-clause-few g c = order_fits c.loop-visit.order.items 1114112 c.loop-visit.invariant.walking.in_order.distinct c.loop-visit.invariant.in_range
