use Rattle.std.proofs.Common.{◌≡◌, ◌++◌, ◌∙◌, List, [], sym, ap, arith, append-nil, length}
use Rattle.std.specs.Option.{is_some}
use Rattle.icu_collator_types.specs.declared.elements.Element.{Element}
use Rattle.icu_collator_core.specs.ElementLists.{unpacked}
use Rattle.icu_collator_core.specs.ReadSources.{canonical_by, weights_by}
use Rattle.icu_collator_core.specs.ReadSteps.{elements_from}
use Rattle.icu_collator_core.proofs.lookups.JoinedTextLemmas.{placed_end}
use Rattle.icu_collator_core.proofs.readings.ReaderLemmas.{whole_left}
use Rattle.icu_collator_core.proofs.readings.ReadStepLemmas.{nothing_from}
use Rattle.icu_collator_core.proofs.reading.lists.push_all.Goals as goal

pub reading-init : goal.reading-init
reading-init c =
    let source = c.args.sound.now in
    record {
      within = omega arith;
      characters = c.requires.characters;
      whole =
          whole_left (canonical_by source) (weights_by c.args.numeric source) (is_some c.args.numeric) c.args.elements.now.items c.args.list.now.items c.requires.empty;
    }

pub returns : goal.returns
returns c =
    let source = c.args.sound.now in
    let list = c.reading.list.items in
    let elements = c.reading.elements.items in
    let within = c.reading.invariant.within in
    let past = c.reading-test.false in
    let count = c.len.ensures.value in
    let over : c.reading.index ≡ length list = omega (arith, within, past, count) in
    let none : elements_from (canonical_by source) (weights_by c.args.numeric source) (is_some c.args.numeric) list c.reading.index ≡ [] =
    nothing_from (canonical_by source) (weights_by c.args.numeric source) (is_some c.args.numeric) list c.reading.index (placed_end c.reading.index list over) in
    sym (ap (λ (es : List Element). unpacked elements ++ es) none ∙ append-nil (unpacked elements)) ∙ c.reading.invariant.whole
