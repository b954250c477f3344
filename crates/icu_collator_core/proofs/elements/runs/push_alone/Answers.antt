use Rattle.std.proofs.Common.{◌≡◌, ◌<◌, ◌∙◌, refl, arith, length}
use Rattle.std.specs.Option.{is_some}
use Rattle.std.specs.Prelude.{slice_index}
use Rattle.std.proofs.lemmas.List.{get_or_read}
use Rattle.icu_collator_core.specs.ReadSources.{canonical_by, weights_by}
use Rattle.icu_collator_core.specs.TableMeaning.{weights_of}
use Rattle.icu_collator_core.proofs.meaning.AcceptedPrefixLemmas.{accepted_tables_know_no_marks_before}
use Rattle.icu_collator_core.proofs.readings.ReaderLemmas.{alone_is_read}
use Rattle.icu_collator_core.proofs.readings.ReadStepLemmas.{no_marks_for}
use Rattle.icu_collator_core.proofs.elements.runs.push_alone.Goals as goal

pub loop-i-init : goal.loop-i-init
loop-i-init c = λ numeric. refl

pub loop-i-preserved : goal.loop-i-preserved
loop-i-preserved c = λ numeric.
    let source = c.args.checked.now in
    let canonical = canonical_by source in
    let weights = weights_by numeric source in
    let list = c.args.list.now in
    let i = c.loop-i.i in
    let x = c.index-list-i.result in
    let within = c.requires.inside in
    let inside : i < length list = omega (arith, within) in
    let is : x ≡ slice_index list i = get_or_read list i x inside c.index-list-i.is 0 in
    let alone = c.in-Some.ensures in
    alone_is_read canonical weights (is_some numeric) list i x c.in-Some.element c.loop-i.elements.items c.push.new.self.items
    c.in_ok-push-in-Some.ensures.ok inside is c.requires.characters
    (no_marks_for numeric (weights_of canonical source.tables) canonical.class (accepted_tables_know_no_marks_before canonical source.tables c.keep_promise.ensures))
    (alone.alone numeric) alone.ordinary alone.undotted
    ∙ c.loop-i.invariant numeric
