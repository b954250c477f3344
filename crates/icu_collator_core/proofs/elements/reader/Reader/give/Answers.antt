use Rattle.std.proofs.Common.{◌≡◌, ◌<◌, ◌∙◌, [], sym, ap, subst, length}
use Rattle.std.specs.Prelude.{slice_index}
use Rattle.std.specs.Option.{is_some}
use Rattle.icu_collator_core.specs.ReadSources.{canonical_by, weights_by}
use Rattle.std.proofs.lemmas.List.{get_or_read}
use Rattle.icu_collator_core.specs.ReadSteps.{elements_from}
use Rattle.icu_collator_core.specs.Readers.{elements_left}
use Rattle.icu_collator_core.proofs.readings.ReaderLemmas.{below, given_then, nothing_left}
use Rattle.icu_collator_core.proofs.elements.reader.Reader.give.Goals as goal

pub returns-then-self-len-clause-left : goal.returns-then-self-len-clause-left
returns-then-self-len-clause-left c =
    let self = c.args.self.now in
    let source = self.checked.now in
    let over = c.if-self-len.true ∙ c.len.ensures.value in
    let none : elements_left self ≡ [] =
    nothing_left (canonical_by source) (weights_by self.numeric source) (is_some self.numeric) self.ready.items self.given self.list.items self.index over (c.requires over) in
    (none, none)

pub returns-clause-left : goal.returns-clause-left
returns-clause-left c =
    let self = c.args.self.now in
    let source = self.checked.now in
    let ready = self.ready.items in
    let bits = c.index-deref-self.result in
    let inside : self.given < length ready = below self.given (length ready) self.counted (λ e. c.if-self-len.false (e ∙ sym c.len.ensures.value)) in
    let inside_deref : self.given < length c.deref.result.now = subst (λ l. self.given < length l) (sym c.deref.ensures) inside in
    let is : bits ≡ slice_index ready self.given =
    get_or_read c.deref.result.now self.given bits inside_deref c.index-deref-self.is 0 ∙ ap (λ l. slice_index l self.given) c.deref.ensures in
    given_then ready self.given bits
    (elements_from (canonical_by source) (weights_by self.numeric source) (is_some self.numeric) self.list.items self.index) inside is
