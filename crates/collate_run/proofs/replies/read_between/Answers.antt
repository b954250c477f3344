use Rattle.std.proofs.Common.{ℕ, ◌+◌, List, take, ap, ◌∙◌}
use Rattle.std.proofs.lemmas.List.{take_rest}
use Rattle.collate_run.specs.Replies.{between, parted_at}
use Rattle.collate_run.proofs.replies.read_between.Goals as goal

pub returns-in-Some : goal.returns-in-Some
returns-in-Some c =
    let names = c.args.names.now in
    let tab = c.in-Some.tab in
    ap (λ (last : List ℕ). between (take tab names) last) (take_rest names (tab + 1)) ∙ ap (parted_at names) c.in-Some.ensures.index

pub returns-in-None : goal.returns-in-None
returns-in-None c = ap (parted_at c.args.names.now) c.in-None.ensures.index
