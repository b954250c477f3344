use Rattle.std.proofs.Common.{ℕ, List, [], ◌∷◌, ◌++◌, map, take, take_all, sym, ap, ◌∙◌}
use Rattle.std.proofs.lemmas.List.{map_more}
use Rattle.collate_rules.specs.CanonicalParts.{subject_of}
use Rattle.collate_mapping_rules.proofs.part_steps.subjects.Goals as goal

pub loop-part-preserved : goal.loop-part-preserved
loop-part-preserved c =
    c.in_ok-push.ensures.items ∙ ap (λ (l : List ℕ). l ++ c.character.result ∷ []) c.loop-part.invariant
    ∙ ap (λ (n : ℕ). map subject_of (take c.loop-part.part-index c.deref-part-items.result.now) ++ n ∷ []) (c.character.ensures ∙ ap subject_of c.part-item.is)
    ∙ sym (map_more subject_of c.deref-part-items.result.now c.loop-part.part-index c.part-item.result c.loop-part-test.true)

pub returns : goal.returns
returns c =
    c.loop-part.invariant
    ∙ ap (map subject_of) (take_all c.loop-part.part-index c.deref-part-items.result.now c.loop-part-test.false ∙ c.deref-part-items.ensures.value)
