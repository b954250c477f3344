use Rattle.std.proofs.Common.{◌≡◌, List, ℕ, true, rules, subst}
use Rattle.std.proofs.lemmas.Iterator.{YieldsList, YieldsList-from_slice}
use Rattle.std.proofs.lemmas.Iterator.Consumers.{YieldsList-from_copied}
use Rattle.icu_normalizer_core.specs.Canonical.{decomposed}
use Rattle.icu_normalizer_core.specs.CanonicalMeaning.{meaning}
use Rattle.icu_collator_core.specs.Acceptance.{CollationSource}
use Rattle.icu_collator_core.specs.AlikeLists.{IsToldAlone}
use Rattle.icu_collator_core.specs.ReadSources.{weights_by}
use Rattle.icu_collator_core.specs.Stretches.{HasElements}
use Rattle.icu_collator_core.proofs.checked.CheckedTables.find_elements.Goals as goal

pub returns : goal.returns
returns c = λ _.
    let source = c.args.self.now in
    let numeric = c.args.numeric in
    let chars = c.args.chars.now in
    let told : c.is_told_alone.result ≡ true = search rules in
    let listed : YieldsList _ (λ (x : ℕ). x) c.copied-chars.result chars = YieldsList-from_copied (YieldsList-from_slice chars (cc)) in
    let is = subst (λ tables. c.decompose_into.new.list.items ≡ decomposed (meaning tables) chars) c.canonical.ensures (c.in_ok-decompose_into.ensures.list chars listed.runs) in
    subst (λ (l : List ℕ). HasElements source numeric l c.push_all.new.elements.items) is
    (record {
      characters = c.in_ok-decompose_into.ensures.characters;
      alone = subst (λ (l : List ℕ). IsToldAlone (weights_by numeric source) l) c.as_slice.ensures
          (subst (λ (source : CollationSource). IsToldAlone (weights_by numeric source) c.as_slice.result.now) c.sound.ensures (c.is_told_alone.ensures told numeric));
      elements = c.in_ok-push_all.ensures;
    })
