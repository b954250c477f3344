use Rattle.std.proofs.Common.{ℕ, List, [], ◌∷◌, ◌++◌, append_assoc, append-nil, ap, sym, ◌∙◌, rules}
use Rattle.std.specs.Char.{IsScalar}
use Rattle.icu_normalizer_core.specs.Canonical.{IsCanonical}
use Rattle.icu_normalizer_core.proofs.decomposed_lists.FormingLemmas.{forming_canonical}
use Rattle.icu_collator_core.specs.ReadSources.{canonical_by}
use Rattle.icu_collator_core.proofs.readings.FlatPartLemmas.{all_pushed, none_pushed, own_part, part_pushed}
use Rattle.icu_collator_core.proofs.checked.CheckedTables.push_listed.Goals as goal

pub loop-part-init : goal.loop-part-init
loop-part-init g c =
    record {
      pushed = none_pushed c.args.self.now c.args.numeric c.args.before c.args.elements.now.items;
      left = search rules;
    }

pub loop-part-preserved : goal.loop-part-preserved
loop-part-preserved g c =
    let source = c.args.self.now in
    let before = c.loop-part.yielded in
    let d = c.in-Some.part in
    let ok : IsCanonical (canonical_by source) = search rules in
    let scalar : IsScalar c.args.c = search rules in
    let own = own_part (canonical_by source) c.args.c d before c.next.new.self c.loop-part.part-iterator ok scalar c.loop-part.invariant.left c.in-Some.ensures.steps in
    record {
      pushed = part_pushed source c.args.numeric c.args.before c.args.elements.now.items before c.loop-part.last c.loop-part.elements.items d
          c.in-Some-push_part.class c.push_part.new.elements.items c.loop-part.invariant.pushed own (search rules) c.in-Some-push_part.ensures;
      left = append_assoc before (d ∷ []) c.next.new.self ∙ ap (λ (l : List ℕ). before ++ l) (sym c.in-Some.ensures.steps) ∙ c.loop-part.invariant.left;
    }

pub returns : goal.returns
returns g c =
    let parts = c.loop-part.yielded in
    let canonical = canonical_by c.args.self.now in
    let ok : IsCanonical canonical = search rules in
    let scalar : IsScalar c.args.c = search rules in
    all_pushed c.args.self.now c.args.numeric c.args.c c.args.before c.args.elements.now.items parts c.loop-part.last c.loop-part.elements.items
    ((forming_canonical canonical ok).nonempty c.args.c scalar)
    (sym c.loop-part.invariant.left ∙ ap (λ (l : List ℕ). parts ++ l) c.in-None.ensures.steps.0 ∙ append-nil parts) c.loop-part.invariant.pushed
