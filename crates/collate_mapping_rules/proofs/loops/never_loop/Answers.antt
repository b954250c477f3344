use Rattle.std.proofs.Common.{◌≡◌, map, false, ◌∙◌, sym}
use Rattle.std.proofs.lemmas.Bool.{MatchBool-at_false, false≢true, not-true}
use Rattle.collate_rules.specs.CanonicalParts.{in_full}
use Rattle.collate_rules.specs.Rules.{MapsMark}
use Rattle.collate_mapping_rules.proofs.mappings.GrowingStepLemmas.{loops_cleared}
use Rattle.collate_mapping_rules.proofs.mappings.NamedLoopLemmas.{HasLoop-named}
use Rattle.collate_mapping_rules.proofs.loops.never_loop.Goals as goal

pub returns-then-map_any_mark : goal.returns-then-map_any_mark
returns-then-map_any_mark c = λ t. absurd (false≢true t)

pub returns : goal.returns
returns c = λ t.
    let unmarked : MapsMark (map in_full c.args.parts.now.list.items) → ⊥ = λ maps. false≢true (sym c.if-map_any_mark.false ∙ c.map_any_mark.ensures.1 maps) in
    let none : c.in_ok-has_loop.has_loop ≡ false = not-true c.in_ok-has_loop.has_loop t in
    loops_cleared c.args.parts.now.list.items unmarked
    (HasLoop-named c.args.parts.now.list.items _ (c.deref.ensures.value ∙ c.in_ok-subjects.ensures) (MatchBool-at_false _ _ none c.in_ok-has_loop.ensures))
