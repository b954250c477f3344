use Rattle.std.proofs.Common.{◌≡◌, ℕ, ◌∷◌, [], map, sym, ap, ◌∙◌}
use Rattle.std.proofs.lemmas.Bool.{false≢true, eq-eqb, eqb-true}
use Rattle.std.proofs.lemmas.List.{get_or_read}
use Rattle.icu_normalizer_core.proofs.composed.CompositionLemmas.{joined_at, apart_at, end_at}
use Rattle.collate_rules.specs.CanonicalParts.{in_full}
use Rattle.collate_rules.specs.Meaning.{canonical_of, pair_of}
use Rattle.collate_mapping_rules.proofs.below_marks.composes_to.Goals as goal

pub returns-in-None : goal.returns-in-None
returns-in-None c = (
  λ e. absurd (false≢true e),
  λ single. absurd (apart_at (canonical_of (map in_full c.args.parts.now.list.items)) c.loop-next.composed c.args.c c.loop-next.next-index c.args.rest.now
      c.loop-next-test.true (ap (pair_of (map in_full c.args.parts.now.list.items) c.loop-next.composed) (sym (get_or_read c.args.rest.now c.loop-next.next-index _ c.loop-next-test.true c.next-item.is 0)) ∙ sym c.in-None.ensures) (c.loop-next.invariant ∙ single)),
)

pub loop-next-preserved : goal.loop-next-preserved
loop-next-preserved c =
    sym (joined_at (canonical_of (map in_full c.args.parts.now.list.items)) c.loop-next.composed c.in-Some.pair c.loop-next.next-index c.args.rest.now
    c.loop-next-test.true (ap (pair_of (map in_full c.args.parts.now.list.items) c.loop-next.composed) (sym (get_or_read c.args.rest.now c.loop-next.next-index _ c.loop-next-test.true c.next-item.is 0)) ∙ sym c.in-Some.ensures))
    ∙ c.loop-next.invariant

pub returns : goal.returns
returns c =
    let end = end_at (canonical_of (map in_full c.args.parts.now.list.items)) c.loop-next.composed c.loop-next.next-index c.args.rest.now c.loop-next-test.false in (
      λ t. sym c.loop-next.invariant ∙ end ∙ ap (λ (n : ℕ). n ∷ []) (eqb-true c.loop-next.composed c.args.c t),
      λ e. let same : c.loop-next.composed ∷ [] ≡ c.args.c ∷ [] = sym end ∙ c.loop-next.invariant ∙ e in eq-eqb c.loop-next.composed c.args.c cc,
    )
