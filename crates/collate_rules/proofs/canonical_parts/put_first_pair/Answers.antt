use Rattle.std.proofs.Common.{sym, ◌∙◌}
use Rattle.collate_rules.proofs.mappings.PartMapLemmas.{pair_kept, pair_put}
use Rattle.collate_rules.proofs.canonical_parts.put_first_pair.Goals as goal

pub returns-then-contains_key : goal.returns-then-contains_key
returns-then-contains_key c = λ a b. pair_kept c.args.pairs.now c.args.pair c.args.character a b (sym c.contains_key.ensures ∙ c.if-contains_key.true)

pub returns : goal.returns
returns c = λ a b.
    pair_put c.args.pairs.now c.args.pair c.args.character c.insert.new.self a b (sym c.contains_key.ensures ∙ c.if-contains_key.false)
    (c.in_ok-insert.ensures.updates.0 (a, b))
