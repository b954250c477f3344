use Rattle.std.proofs.Common.{◌≡◌, map, false, ◌∙◌, sym}
use Rattle.std.proofs.lemmas.Bool.{false≢true, not-true}
use Rattle.collate_rules.specs.CanonicalParts.{in_full}
use Rattle.collate_rules.specs.Rules.{MapsMark}
use Rattle.collate_mapping_rules.proofs.lists.GrowingListLemmas.{lists_cleared}
use Rattle.collate_mapping_rules.proofs.full_lists.never_have_bad_list.Goals as goal

pub returns-then-map_any_mark : goal.returns-then-map_any_mark
returns-then-map_any_mark c = λ t. absurd (false≢true t)

pub returns : goal.returns
returns c = λ t.
    let unmarked : MapsMark (map in_full c.args.parts.now.list.items) → ⊥ = λ maps. false≢true (sym c.if-map_any_mark.false ∙ c.map_any_mark.ensures.1 maps) in
    let none : c.in_ok-is_bad.is_bad ≡ false = not-true c.in_ok-is_bad.is_bad t in
    lists_cleared c.args.parts.now.list.items unmarked (λ bad. false≢true (sym none ∙ c.in_ok-is_bad.ensures.1 bad))
