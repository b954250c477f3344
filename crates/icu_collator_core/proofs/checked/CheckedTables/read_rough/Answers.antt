use Rattle.std.proofs.Common.{◌≡◌, ◌++◌, List, ℕ, true, ap, rules, subst, sym, take, ◌∙◌}
use Rattle.icu_normalizer_core.specs.Canonical.{decomposed}
use Rattle.icu_collator_core.specs.ReadSources.{canonical_by}
use Rattle.icu_collator_core.specs.Stretches.{HasElements, IsClosed}
use Rattle.icu_collator_core.proofs.readings.StretchLemmas.{rough_closed}
use Rattle.icu_collator_core.proofs.checked.CheckedTables.read_rough.Goals as goal

pub returns : goal.returns
returns g c = λ fits text read.
    let source = c.args.self.now in
    let numeric = c.args.numeric in
    let old = c.args.stretch.now in
    let items = c.args.elements.now.items in
    let found = c.find_elements.new.found.items in
    let told : c.in_ok-is_found.is_found ≡ true = search rules in
    let has : HasElements source numeric (decomposed (canonical_by source) old.chars.items) found =
    subst (λ (l : List ℕ). HasElements source numeric (decomposed (canonical_by source) l) found) c.as_slice.ensures (c.in_ok-is_found.ensures told) in
    let new : c.replace_from.new.self.items ≡ take old.count items ++ found =
    c.replace_from.ensures fits ∙ ap (λ (l : List ℕ). take old.count items ++ l) c.as_slice-2.ensures in
    subst (λ (l : List ℕ). IsClosed source numeric text 256 l) (sym new)
    (rough_closed source numeric text old.chars.items old.count old.class old.is_rough items found read has)
