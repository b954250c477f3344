use Rattle.std.proofs.Common.{◌≡◌, ◌∙◌, ◌++◌, ◌∷◌, [], ℕ, List, ap, sym, subst, append_assoc, arith}
use Rattle.collate_run.specs.Replies.{AreFirst, ended}
use Rattle.collate_run.proofs.lines.RequestLemmas.{first-more, first-stays}
use Rattle.collate_run.proofs.run.put_line.Goals as goal

pub returns-then-len-limit : goal.returns-then-len-limit
returns-then-len-limit c = λ before first.
    first-stays c.args.limit c.args.records.now.items before (ended c.args.line.now) (omega (arith, c.if-len-limit.true, c.len.ensures)) first

pub returns : goal.returns
returns c = λ before first.
    let kept = c.args.records.now.items in
    let items : c.push.new.self.items ≡ kept ++ ended c.args.line.now =
    c.in_ok-push.ensures.items ∙ ap (λ (xs : List ℕ). xs ++ 10 ∷ []) c.in_ok-extend_from_slice.ensures.items ∙ append_assoc kept c.args.line.now (10 ∷ []) in
    subst (λ (xs : List ℕ). AreFirst c.args.limit xs (before ++ ended c.args.line.now)) (sym items)
    (first-more c.args.limit kept before (ended c.args.line.now) (omega (arith, c.if-len-limit.false, c.len.ensures)) first)
