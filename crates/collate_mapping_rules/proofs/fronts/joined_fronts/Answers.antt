use Rattle.std.proofs.Common.{flat_map, take, [], subst, sym, ◌∙◌}
use Rattle.collate_rules.specs.Lists.{IsFront}
use Rattle.collate_rules.proofs.lists.RuleFullListLemmas.{flat_more}
use Rattle.collate_mapping_rules.proofs.fronts.joined_fronts.Goals as goal

pub loop-c-preserved : goal.loop-c-preserved
loop-c-preserved c = λ full fronts.
    subst (IsFront c.joined-front.result) (flat_more full [] c.args.characters.now c.loop-c.c-index c.c-item.result c.loop-c-test.true c.c-item.is)
    (c.joined-front.ensures (flat_map full (take c.loop-c.c-index c.args.characters.now)) (full c.c-item.result) (c.loop-c.invariant full fronts)
    (fronts c.c-item.result c.in_ok-more.more (sym c.get.ensures.value ∙ sym c.copied.ensures ∙ c.in_ok-more.was)))
