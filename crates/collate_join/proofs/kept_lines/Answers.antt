use Rattle.std.proofs.Common.{ℕ, List, [], Bor, take, subst, arith, take_all}
use Rattle.collate_join.specs.Join.{stays}
use Rattle.collate_join.specs.Kept.{HasKept}
use Rattle.collate_join.proofs.JoinLemmas.{line_number, lines_more, texts_of}
use Rattle.collate_join.proofs.kept_lines.Goals as goal

pub loop-i-preserved : goal.loop-i-preserved
loop-i-preserved c =
    let xs = c.args.root.now in
    let i = c.loop-i.i in
    subst (λ (ls : List (List ℕ)). HasKept c.take_line.new.self (stays (texts_of c.args.tailoring.now)) ls)
    (lines_more xs i (record { ref_ptr = (0, 0); now = [] }) c.loop-i-test.true)
    (c.in_ok-take_line.ensures (texts_of c.args.tailoring.now) (texts_of (take i xs)) c.in_ok-keys.ensures c.in_ok-left_out.ensures c.loop-i.invariant
    (line_number xs i c.loop-i-test.true))

pub returns : goal.returns
returns c =
    subst (λ (ls : List (Bor (List ℕ))). HasKept c.loop-i.kept (stays (texts_of c.args.tailoring.now)) (texts_of ls))
    (take_all c.loop-i.i c.args.root.now (omega (arith, c.loop-i-test.false))) c.loop-i.invariant
