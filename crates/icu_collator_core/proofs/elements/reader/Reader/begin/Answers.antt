use Rattle.std.proofs.Common.{◌≡◌, ℕ, List, sym, ap, ◌∙◌, length}
use Rattle.std.specs.Option.{is_some}
use Rattle.std.proofs.lemmas.Result.{on_err_weaker, on_ok_weaker}
use Rattle.icu_normalizer_core.specs.BorrowedMeaning.{borrowed_meaning}
use Rattle.icu_normalizer_core.specs.Canonical.{Canonical, decomposed}
use Rattle.icu_normalizer_core.specs.CanonicalMeaning.{meaning}
use Rattle.icu_collator_core.specs.Elements.{elements_of_list}
use Rattle.icu_collator_core.specs.ReadSources.{canonical_by, weights_by}
use Rattle.icu_collator_core.proofs.readings.ReaderLemmas.{nothing_left, whole_left}
use Rattle.icu_collator_core.proofs.elements.reader.Reader.begin.Goals as goal

pub returns-clause-left : goal.returns-clause-left
returns-clause-left g c =
    let self = c.args.self.now in
    let source = self.checked.now in
    let canonical = canonical_by source in
    let same : borrowed_meaning c.canonical-canonical.result ≡ canonical = ap meaning c.canonical-canonical.ensures in
    on_ok_weaker c.decompose_into.result
    (λ list cs spelled.
    whole_left canonical (weights_by self.numeric source) (is_some self.numeric) c.clear.new.self.items c.decompose_into.new.list.items c.clear.ensures.items
    ∙ ap (elements_of_list canonical (weights_by self.numeric source) (is_some self.numeric)) (list cs spelled ∙ ap (λ (k : Canonical). decomposed k cs) same))
    c.decompose_into.ensures.list

pub returns-clause-none : goal.returns-clause-none
returns-clause-none g c =
    let self = c.args.self.now in
    let source = self.checked.now in
    on_err_weaker c.decompose_into.result
    (λ none.
    nothing_left (canonical_by source) (weights_by self.numeric source) (is_some self.numeric) c.clear.new.self.items 0 c.decompose_into.new.list.items 0
    (sym (ap (λ (l : List ℕ). length l) c.clear.ensures.items)) (sym (ap (λ (l : List ℕ). length l) none)))
    c.decompose_into.ensures.none
