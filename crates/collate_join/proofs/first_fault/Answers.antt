use Rattle.std.proofs.Common.{ℕ, Bool, List, [], Bor, sym, ◌∙◌, arith}
use Rattle.collate_join.specs.Join.{is_fault}
use Rattle.collate_join.proofs.FaultLemmas.{behind_line, found_line, none_found, position_from-map}
use Rattle.collate_join.proofs.JoinLemmas.{texts_of}
use Rattle.collate_join.proofs.first_fault.Goals as goal

-- the test of a line
abbrev faulty : List (Bor (List ℕ)) → Bor (List ℕ) → Bool
faulty root line = is_fault (texts_of root) line.now

pub returns-then-is_bad : goal.returns-then-is_bad
returns-then-is_bad c =
    found_line (faulty c.args.root.now) c.args.tailoring.now c.loop-i.i (record { ref_ptr = (0, 0); now = [] }) c.loop-i-test.true c.loop-i.invariant
    (sym (c.in_ok-is_bad.ensures (texts_of c.args.root.now) c.in_ok-weighed.ensures) ∙ c.if-is_bad.true)
    ∙ position_from-map (λ (line : Bor (List ℕ)). line.now) (is_fault (texts_of c.args.root.now)) 1 c.args.tailoring.now

pub loop-i-preserved : goal.loop-i-preserved
loop-i-preserved c =
    behind_line (faulty c.args.root.now) c.args.tailoring.now c.loop-i.i (record { ref_ptr = (0, 0); now = [] }) c.loop-i-test.true c.loop-i.invariant
    (sym (c.in_ok-is_bad.ensures (texts_of c.args.root.now) c.in_ok-weighed.ensures) ∙ c.if-is_bad.false)

pub returns : goal.returns
returns c =
    none_found (faulty c.args.root.now) c.args.tailoring.now c.loop-i.i (omega (arith, c.loop-i-test.false)) c.loop-i.invariant
    ∙ position_from-map (λ (line : Bor (List ℕ)). line.now) (is_fault (texts_of c.args.root.now)) 1 c.args.tailoring.now
