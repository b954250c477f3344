use Rattle.std.proofs.Common.{◌∙◌, ◌++◌, ◌∷◌, [], cond, ap, sym}
use Rattle.collate_name_list.proofs.RekeyLemmas.{ok_then}
use Rattle.collate_name_list.proofs.keys.keep.Goals as goal

pub returns-then-has_kept : goal.returns-then-has_kept
returns-then-has_kept c =
    ok_then c.push.result c.push.ensures.pushed (λ is.
    is ∙ sym (ap (λ b. c.args.ranked.now ++ cond b (c.args.placed ∷ []) []) (sym c.has_kept.ensures ∙ c.if-has_kept.true)))
