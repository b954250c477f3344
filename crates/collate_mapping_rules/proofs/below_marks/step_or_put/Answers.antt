use Rattle.std.proofs.Common.{map, sym}
use Rattle.std.proofs.lemmas.Result.{on_ok_weaker}
use Rattle.collate_rules.specs.CanonicalParts.{in_full}
use Rattle.collate_rules.specs.Meaning.{step_of}
use Rattle.collate_rules.proofs.lists.RuleFullListLemmas.{expanded_none, expanded_unmapped}
use Rattle.collate_mapping_rules.proofs.mappings.WaitingLemmas.{fewer_one, fewer_put, fewer_two, left_one, left_put, left_two}
use Rattle.collate_mapping_rules.proofs.below_marks.step_or_put.Goals as goal

pub returns-then-limit-eq0-clause-left : goal.returns-then-limit-eq0-clause-left
returns-then-limit-eq0-clause-left c = λ rest e.
    on_ok_weaker c.put_in_order.result
    (left_put (map in_full c.args.parts.now.list.items) c.args.waiting.now.items c.args.c c.args.limit c.args.list.now.items rest e c.put_in_order.new.list.items
    (expanded_none (step_of (map in_full c.args.parts.now.list.items)) c.args.limit c.args.c c.if-limit-eq0.true))
    c.put_in_order.ensures

pub returns-then-limit-eq0-clause-fewer : goal.returns-then-limit-eq0-clause-fewer
returns-then-limit-eq0-clause-fewer c = on_ok_weaker c.put_in_order.result (λ _. fewer_put c.args.waiting.now.items c.args.limit) c.put_in_order.ensures

pub returns-in-Default-clause-left : goal.returns-in-Default-clause-left
returns-in-Default-clause-left c = λ rest e.
    on_ok_weaker c.put_in_order-in-Default.result
    (left_put (map in_full c.args.parts.now.list.items) c.args.waiting.now.items c.args.c c.args.limit c.args.list.now.items rest e c.put_in_order-in-Default.new.list.items
    (expanded_unmapped (step_of (map in_full c.args.parts.now.list.items)) c.args.limit c.args.c (sym c.in-Default.ensures)))
    c.put_in_order-in-Default.ensures

pub returns-in-Default-clause-fewer : goal.returns-in-Default-clause-fewer
returns-in-Default-clause-fewer c = on_ok_weaker c.put_in_order-in-Default.result (λ _. fewer_put c.args.waiting.now.items c.args.limit) c.put_in_order-in-Default.ensures

pub returns-in_ok-push-in-Singleton : goal.returns-in_ok-push-in-Singleton
returns-in_ok-push-in-Singleton c = record {
  left = λ rest e. left_one (map in_full c.args.parts.now.list.items) c.args.waiting.now.items c.args.c c.args.limit c.args.list.now.items rest e
      c.push.new.self.items c.in-Singleton.first c.if-limit-eq0.false (sym c.in-Singleton.ensures) c.in_ok-push-in-Singleton.ensures.items;
  fewer = fewer_one c.args.waiting.now.items c.push.new.self.items c.in-Singleton.first c.args.limit c.if-limit-eq0.false c.in_ok-push-in-Singleton.ensures.items;
}

pub returns-in_ok-push-in-Expansion-2 : goal.returns-in_ok-push-in-Expansion-2
returns-in_ok-push-in-Expansion-2 c = record {
  left = λ rest e. left_two (map in_full c.args.parts.now.list.items) c.args.waiting.now.items c.args.c c.args.limit c.args.list.now.items rest e
      c.push-in-Expansion.new.self.items c.push-in-Expansion-2.new.self.items c.in-Expansion.first c.in-Expansion.second c.if-limit-eq0.false (sym c.in-Expansion.ensures)
      c.in_ok-push-in-Expansion.ensures.items c.in_ok-push-in-Expansion-2.ensures.items;
  fewer = fewer_two c.args.waiting.now.items c.push-in-Expansion.new.self.items c.push-in-Expansion-2.new.self.items c.in-Expansion.first c.in-Expansion.second c.args.limit c.if-limit-eq0.false
      c.in_ok-push-in-Expansion.ensures.items c.in_ok-push-in-Expansion-2.ensures.items;
}
