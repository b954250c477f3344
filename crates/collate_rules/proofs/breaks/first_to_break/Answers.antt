use Rattle.std.proofs.Common.{ℕ, take, sym, ◌∙◌, ap, arith}
use Rattle.collate_rules.proofs.records.BreakLemmas.{none_up_to, part_tested, whole_unbroken}
use Rattle.collate_rules.proofs.breaks.first_to_break.Goals as goal

pub returns-then-not-is_broken : goal.returns-then-not-is_broken
returns-then-not-is_broken g c = λ lasting.
    whole_unbroken (g.T.LinesTest.breach c.args.test.now) lasting c.args.records.now c.in_ok-is_broken.is_broken c.in_ok-is_broken.ensures c.if-not-is_broken.true

pub narrowing-preserved-then-is_broken : goal.narrowing-preserved-then-is_broken
narrowing-preserved-then-is_broken g c =
    record {
      order = omega arith;
      within = omega arith;
      below = c.narrowing.invariant.below;
      broken =
          sym (part_tested (g.T.LinesTest.breach c.args.test.now) c.args.records.now _ c.next_index-line.result c.in_ok-is_broken-2.is_broken c.in_ok-is_broken-2.ensures
          (ap (λ (n : ℕ). take n c.args.records.now) (omega arith))) ∙ c.if-is_broken.true;
    }

pub narrowing-preserved : goal.narrowing-preserved
narrowing-preserved g c =
    record {
      order = omega arith;
      within = c.narrowing.invariant.within;
      below = λ lasting. none_up_to (g.T.LinesTest.breach c.args.test.now) lasting c.args.records.now _ c.next_index-line.result c.in_ok-is_broken-2.is_broken c.in_ok-is_broken-2.ensures
          (ap (λ (n : ℕ). take n c.args.records.now) (omega arith)) c.if-is_broken.false;
      broken = c.narrowing.invariant.broken;
    }
