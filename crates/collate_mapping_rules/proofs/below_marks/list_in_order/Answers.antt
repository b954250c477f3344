use Rattle.std.proofs.Common.{List, [], ◌∷◌, ◌++◌, ℕ, ap, arith, map, subst, ◌∙◌}
use Rattle.std.proofs.lemmas.List.{nil_from_length}
use Rattle.collate_rules.specs.CanonicalParts.{in_full}
use Rattle.collate_rules.specs.LowParts.{AreLeft}
use Rattle.collate_rules.specs.Meaning.{full_of}
use Rattle.collate_mapping_rules.proofs.mappings.WaitingLemmas.{fewer_turns, left_end, left_start, left_turn}
use Rattle.collate_mapping_rules.proofs.below_marks.list_in_order.Goals as goal

pub stepping-init : goal.stepping-init
stepping-init c = left_start (map in_full c.args.parts.now.list.items) c.args.c c.push.new.self.items c.new-list.result.items
    (c.in_ok-push.ensures.items ∙ ap (λ (w : List (ℕ × ℕ)). w ++ (c.args.c, 0x110000) ∷ []) c.new-waiting.ensures.items) c.new-list.ensures.items

pub stepping-preserved : goal.stepping-preserved
stepping-preserved c =
    let lines = map in_full c.args.parts.now.list.items in
    let turn = left_turn lines (full_of lines c.args.c) c.stepping.waiting.items c.pop.new.self.items c.in-Some.last c.in-Some.limit c.stepping.list.items c.in-Some.ensures.items c.stepping.invariant in
    subst (λ (text : List ℕ). AreLeft lines text c.step_or_put.new.waiting.items c.step_or_put.new.list.items) turn.2 (c.in_ok-step_or_put.ensures.left turn.0 turn.1)

pub stepping-smaller : goal.stepping-smaller
stepping-smaller c = fewer_turns c.stepping.waiting.items c.pop.new.self.items c.step_or_put.new.waiting.items c.in-Some.last c.in-Some.limit c.in-Some.ensures.items c.in_ok-step_or_put.ensures.fewer

pub returns : goal.returns
returns c =
    let lines = map in_full c.args.parts.now.list.items in
    left_end lines (full_of lines c.args.c) c.stepping.waiting.items c.stepping.list.items (nil_from_length c.stepping.waiting.items (omega (arith, c.in_default.ensures.cases.0, c.stepping.waiting.ok.0))) c.stepping.invariant
