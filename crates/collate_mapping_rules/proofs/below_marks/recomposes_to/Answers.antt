use Rattle.std.proofs.Common.{◌≢◌, ℕ, List, ◌∷◌, [], length, ◌==◌, map, sym, ap, ◌∙◌}
use Rattle.std.proofs.lemmas.Bool.{false≢true}
use Rattle.std.proofs.lemmas.Bool.Decides.{Decides-eqb}
use Rattle.std.proofs.lemmas.List.{nil_from_length}
use Rattle.icu_normalizer_core.specs.Canonical.{recomposed}
use Rattle.icu_normalizer_core.proofs.composed.CompositionLemmas.{mark_alone, mark_first, none_of_nothing, recomposed_starter}
use Rattle.collate_rules.specs.CanonicalParts.{in_full}
use Rattle.collate_rules.specs.Meaning.{canonical_of}
use Rattle.collate_mapping_rules.proofs.below_marks.recomposes_to.Goals as goal

pub returns-then-class_of-eq0 : goal.returns-then-class_of-eq0
returns-then-class_of-eq0 c =
    let canonical = canonical_of (map in_full c.args.parts.now.list.items) in
    let same = ap (recomposed canonical) c.in-Some.ensures.cases.0
    ∙ recomposed_starter canonical c.in-Some.first.now c.in-Some.rest.now (sym c.class_of.ensures ∙ c.if-class_of-eq0.true) in
    (λ t. same ∙ c.composes_to.ensures.0 t, λ e. c.composes_to.ensures.1 (sym same ∙ e))

pub returns-then-first-c : goal.returns-then-first-c
returns-then-first-c c =
    let canonical = canonical_of (map in_full c.args.parts.now.list.items) in
    let mark : canonical.class c.in-Some.first.now ≢ 0 = λ zero. c.if-class_of-eq0.false (c.class_of.ensures ∙ zero) in
    let same = ap (recomposed canonical) c.in-Some.ensures.cases.0 in (
      λ h. same
          ∙ ap (λ (cs : List ℕ). recomposed canonical (c.in-Some.first.now ∷ cs)) (nil_from_length c.in-Some.rest.now ((Decides-eqb _ 0).0 (sym c.is_empty.ensures ∙ h)))
          ∙ mark_alone canonical c.in-Some.first.now mark
          ∙ ap (λ (n : ℕ). n ∷ []) c.if-first-c.true,
      λ e. c.is_empty.ensures ∙ ap (λ (cs : List ℕ). length cs == 0) (mark_first canonical c.in-Some.first.now c.args.c c.in-Some.rest.now mark (sym same ∙ e)).0,
    )

pub returns-else-first-c : goal.returns-else-first-c
returns-else-first-c c =
    let canonical = canonical_of (map in_full c.args.parts.now.list.items) in
    let mark : canonical.class c.in-Some.first.now ≢ 0 = λ zero. c.if-class_of-eq0.false (c.class_of.ensures ∙ zero) in (
      λ h. absurd (c.if-first-c.false ((Decides-eqb c.in-Some.first.now c.args.c).0 h)),
      λ e. absurd (c.if-first-c.false (mark_first canonical c.in-Some.first.now c.args.c c.in-Some.rest.now mark (sym (ap (recomposed canonical) c.in-Some.ensures.cases.0) ∙ e)).1),
    )

pub returns-in-None : goal.returns-in-None
returns-in-None c = (
  λ e. absurd (false≢true e),
  λ single. absurd (none_of_nothing (canonical_of (map in_full c.args.parts.now.list.items)) c.args.list.now c.args.c c.in-None.ensures.cases single),
)
