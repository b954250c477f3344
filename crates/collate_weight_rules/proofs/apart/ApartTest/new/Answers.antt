use Rattle.std.proofs.Common.{ℕ, ◌*◌, ◌^◌, List, map, sym, ap, subst, ◌∙◌}
use Rattle.std.specs.List.Sorted.{IsPermutation}
use Rattle.std.proofs.lemmas.List.{length-map}
use Rattle.icu_collator_types.specs.declared.elements.Element.{Element}
use Rattle.collate_lines.specs.Record.{said}
use Rattle.collate_weight_rules.proofs.apart.ApartTest.new.Goals as goal

pub returns : goal.returns
returns c = record {
  count = sym (length-map c.args.records.now said);
  primaries = subst (λ (ps : List (ℕ × ℕ)). IsPermutation ps c.in_ok-primaries.primaries.items)
      (c.in_ok-primaries_of.ensures ∙ ap (map (λ (p : Element × ℕ). (p.0.primary, p.1))) (c.deref.ensures.value ∙ c.in_ok-placed.ensures)) c.in_ok-primaries.ensures;
  secondaries = subst (λ (ps : List (ℕ × ℕ)). IsPermutation ps c.in_ok-secondaries.secondaries.items)
      (c.in_ok-secondaries_of.ensures ∙ ap (map (λ (p : Element × ℕ). (p.0.secondary * 2 ^ 16, p.1))) (c.deref-2.ensures.value ∙ c.in_ok-placed.ensures)) c.in_ok-secondaries.ensures;
  tertiaries = subst (λ (ps : List (ℕ × ℕ)). IsPermutation ps c.in_ok-tertiaries.tertiaries.items)
      (c.in_ok-tertiaries_of.ensures ∙ ap (map (λ (p : Element × ℕ). (p.0.tertiary * 2 ^ 16, p.1))) (c.deref-3.ensures.value ∙ c.in_ok-placed.ensures)) c.in_ok-tertiaries.ensures;
}
