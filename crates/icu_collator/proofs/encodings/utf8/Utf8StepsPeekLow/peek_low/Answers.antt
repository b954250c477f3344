use Rattle.std.proofs.Common.{◌∙◌, refl, rules, sym}
use Rattle.icu_normalizer_core.specs.Decoding.{utf8_chars}
use Rattle.icu_normalizer.proofs.passed.FormTextLemmas.{utf8_one}
use Rattle.icu_collator.proofs.lists.ListSpelledLemmas.{first_next}
use Rattle.icu_collator.proofs.encodings.utf8.Utf8StepsPeekLow.peek_low.Goals as goal

pub returns-in-Some : goal.returns-in-Some
returns-in-Some c = λ low next rest step.
    let lead = c.in-Some.lead.now in
    let behind = c.in-Some._rest.now in
    let bytes = c.self.inside.bytes.now in
    let read = (utf8_one bytes behind lead lead (search rules) low refl).characters in
    first_next c.args.self.now (utf8_chars behind) lead next rest (sym c.self.view_is ∙ read) step
