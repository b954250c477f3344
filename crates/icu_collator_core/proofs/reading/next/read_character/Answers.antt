use Rattle.std.proofs.Common.{◌≡◌, ◌<◌, ◌≤◌, ◌+◌, ◌∷◌, ◌++◌, ◌∙◌, [], sym, ap, subst, arith, drop, length}
use Rattle.std.specs.Option.{is_some}
use Rattle.std.specs.Prelude.{slice_index}
use Rattle.std.proofs.lemmas.List.{get_or_read}
use Rattle.icu_collator_types.specs.declared.elements.Element.{Element}
use Rattle.icu_collator_core.specs.Defaults.{primary_element}
use Rattle.icu_collator_core.specs.ElementLists.{unpacked}
use Rattle.icu_collator_core.specs.Elements.{placed}
use Rattle.icu_collator_core.specs.Pools.{element_of}
use Rattle.icu_collator_core.specs.ReadSources.{canonical_by, weights_by}
use Rattle.icu_collator_core.specs.ReadSteps.{placed_at}
use Rattle.icu_collator_core.specs.TableMeaning.{weights_of}
use Rattle.icu_collator_core.proofs.lookups.PackedLemmas.{element_of_primary, unpacked_more}
use Rattle.icu_collator_core.proofs.meaning.AcceptedPrefixLemmas.{accepted_tables_know_no_marks_before}
use Rattle.icu_collator_core.proofs.readings.CaseLemmas.{reading_special}
use Rattle.icu_collator_core.proofs.readings.ReadStepLemmas.{alike_self, left_from, no_marks_for, read_from}
use Rattle.icu_collator_core.proofs.reading.next.read_character.Goals as goal

pub returns-in_ok-push-in-Some-clause-read : goal.returns-in_ok-push-in-Some-clause-read
returns-in_ok-push-in-Some-clause-read c =
    let source = c.args.sound.now in
    let canonical = canonical_by source in
    let weights = weights_by c.args.numeric source in
    let old = c.args.list.now.items in
    let index = c.args.index in
    let ready = c.args.ready.now.items in
    let after = c.push.new.self.items in
    let x = c.index-deref-index.result in
    let primary = c.in-Some.primary in
    let inside = c.requires.inside in
    let within : index ≤ length old = omega (arith, inside) in
    let ps = drop (index + 1) (placed old) in
    let inside_list : index < length c.deref.result.now = subst (λ l. index < length l) (sym c.deref.ensures) inside in
    let is : x ≡ slice_index old index =
    get_or_read c.deref.result.now index x inside_list c.index-deref-index.is 0 ∙ ap (λ l. slice_index l index) c.deref.ensures in
    let here = left_from old index x inside is in
    read_from canonical weights (is_some c.args.numeric) old index x ready old (index + 1) after
    (record { elements = primary_element primary ∷ []; left = ps }) within here
    (no_marks_for c.args.numeric (weights_of canonical source.tables) canonical.class (accepted_tables_know_no_marks_before canonical source.tables c.keep_promise.ensures))
    (reading_special canonical weights (is_some c.args.numeric) (placed_at old index x) ps primary (sym c.special_primary.ensures ∙ c.in-Some.is))
    (record {
      elements =
          unpacked_more ready after c.new_from_primary.result c.in_ok-push-in-Some.ensures.ok
          ∙ ap (λ (e : Element). unpacked ready ++ e ∷ []) (ap element_of c.new_from_primary.ensures ∙ element_of_primary primary);
      left = λ _. alike_self weights ps;
    })
