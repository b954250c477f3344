use Rattle.std.proofs.Common.{◌≡◌, ◌<◌, inl, inr, map, refl, sym, ◌∙◌, arith}
use Rattle.std.proofs.lemmas.Bool.{false≢true}
use Rattle.collate_rules.specs.CanonicalParts.{in_full}
use Rattle.collate_rules.specs.Meaning.{class_of}
use Rattle.collate_rules.proofs.lists.LowLemmas.{low_own}
use Rattle.collate_mapping_rules.proofs.below_marks.is_badly_low.Goals as goal
use Rattle.collate_mapping_rules.proofs.below_marks.is_badly_low.Goals.{then-class_of-ne0-via-then-class_of-ne0, then-class_of-ne0-via-else-class_of-ne0+then-is_mapped_too_low}

pub returns-then-class_of-ne0 : goal.returns-then-class_of-ne0
returns-then-class_of-ne0 c =
    let low : c.args.c < 0x300 = omega arith in (
      λ h. elim c.then-class_of-ne0.branch [
        | then-class_of-ne0-via-then-class_of-ne0 w ↦ (low, inl (λ none. w.if-class_of-ne0.true (c.class_of.ensures ∙ none)))
        | then-class_of-ne0-via-else-class_of-ne0+then-is_mapped_too_low w ↦ (low, inr (inr (w.is_mapped_too_low.ensures.0 w.if-is_mapped_too_low.true)))
      ],
      λ bad. refl,
    )

pub returns : goal.returns
returns c =
    let class : class_of (map in_full c.args.parts.now.list.items) c.args.c ≡ 0 = sym c.class_of.ensures ∙ c.if-class_of-ne0.false in
    low_own c.args.parts.now.list.items c.args.c c.in_ok-is_own.is_own (omega arith) class
    (λ mapped. false≢true (sym c.if-is_mapped_too_low.false ∙ c.is_mapped_too_low.ensures.1 mapped)) c.in_ok-is_own.ensures
