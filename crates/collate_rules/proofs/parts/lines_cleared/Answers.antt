use Rattle.std.proofs.Common.{ℕ, length, take, refl, sym, ap, arith, take_all}
use Rattle.std.specs.Fn.{FnReturnsAt}
use Rattle.collate_rules.specs.declared.canonical_parts.CanonicalParts.{CanonicalParts}
use Rattle.collate_rules.specs.CanonicalParts.{IsShort}
use Rattle.collate_rules.proofs.offenders.PartRuleLemmas.{All-front, cleared_front}
use Rattle.collate_rules.proofs.parts.lines_cleared.Goals as goal
use Rattle.collate_rules.proofs.parts.lines_cleared.Goals.{then-is_front_clear, else-is_front_clear}

pub returns-then-is_clear-clause-clear : goal.returns-then-is_clear-clause-clear
returns-then-is_clear-clause-clear g c = λ rule asks clear k below.
    let tested : FnReturnsAt g.C.Fn c.args.clears c.in_ok-parts.parts c.clears.result =
    record { shown = _; shows = refl {A = CanonicalParts}; says = record { met = c.clears.ensures } } in
    cleared_front rule (FnReturnsAt g.C.Fn c.args.clears) clear asks c.in_ok-parts.parts c.args.records.now c.args.records.now (length c.args.records.now)
    c.clears.result c.in_ok-is_clear.is_clear (sym (take_all (length c.args.records.now) c.args.records.now (omega arith))) c.in_ok-parts.ensures
    tested c.in_ok-is_clear.was c.if-is_clear.true k below

pub of_lines-requires-in-narrowing : goal.of_lines-requires-in-narrowing
of_lines-requires-in-narrowing g c =
    All-front IsShort c.args.records.now _ c.next_index-count.result
    (ap (λ (n : ℕ). take n c.args.records.now) (omega arith)) c.requires.canonical

pub narrowing-preserved : goal.narrowing-preserved
narrowing-preserved g c =
    elim c.if-is_front_clear.branch [
      | then-is_front_clear w ↦
          record {
            order = omega arith;
            within = omega arith;
            clear = λ rule asks clear k below.
                let tested : FnReturnsAt g.C.Fn c.args.clears c.in_ok-front.front c.clears-in-narrowing.result =
                record { shown = _; shows = refl {A = CanonicalParts}; says = record { met = c.clears-in-narrowing.ensures } } in
                cleared_front rule (FnReturnsAt g.C.Fn c.args.clears) clear asks c.in_ok-front.front c.args.records.now _ c.next_index-count.result
                c.clears-in-narrowing.result c.in_ok-is_front_clear.is_front_clear (ap (λ (n : ℕ). take n c.args.records.now) (omega arith)) c.in_ok-front.ensures
                tested c.in_ok-is_front_clear.was w.if-is_front_clear.true k (omega (arith, below, w.low-is));
          }
      | else-is_front_clear w ↦
          record {
            order = omega arith;
            within = omega arith;
            clear = λ rule asks clear k below. c.narrowing.invariant.clear rule asks clear k (omega (arith, below, w.low-is));
          }
    ]
