use Rattle.std.proofs.Common.{◌≡◌, ◌∷◌, [], ℕ, List, map, sym, ap, ◌∙◌, subst, ◌↔◌, IsTrue}
use Rattle.icu_normalizer_core.specs.Canonical.{marks_in_order, recomposed}
use Rattle.icu_normalizer_core.proofs.composed.CompositionLemmas.{composed_one}
use Rattle.collate_rules.specs.CanonicalParts.{in_full}
use Rattle.collate_rules.specs.Meaning.{canonical_of, full_of}
use Rattle.collate_mapping_rules.proofs.below_marks.is_own_composed.Goals as goal

pub returns : goal.returns
returns c =
    let canonical = canonical_of (map in_full c.args.parts.now.list.items) in
    let full = full_of (map in_full c.args.parts.now.list.items) c.args.c in
    let list : c.deref.result.now ≡ marks_in_order canonical.class full =
    c.deref.ensures.value ∙ c.in_ok-list.ensures in
    subst (λ (l : List ℕ). IsTrue c.recomposes_to.result ↔ (l ≡ c.args.c ∷ [])) (ap (recomposed canonical) list ∙ sym (composed_one canonical c.args.c)) c.recomposes_to.ensures
