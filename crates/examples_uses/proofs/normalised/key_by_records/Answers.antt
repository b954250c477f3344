use Rattle.std.proofs.Common.{◌≡◌, ℕ, List, ◌++◌, ap, ◌∙◌}
use Rattle.icu_normalizer_core.specs.Decoding.{utf8_chars}
use Rattle.icu_collator.specs.CollatorAnswers.{key_by}
use Rattle.collate_laws.specs.OverRecords.{IsCollatorOf}
use Rattle.examples_uses.proofs.UseAnswerLemmas.{of_given}
use Rattle.examples_uses.proofs.UseFileLemmas.{key_by_records}
use Rattle.examples_uses.proofs.normalised.key_by_records.Goals as goal

pub returns : goal.returns
returns c =
    let key = key_by c.as_borrowed.result (utf8_chars c.args.text.now) in
    of_given (λ _. c.write_sort_key_to.new.sink.items ≡ c.new-key.result.items ++ key)
    c.write_sort_key_to.result c.in_ok-ok.field-0 c.in_ok-ok.ensures.value c.write_sort_key_to.ensures.written
    ∙ ap (λ (front : List ℕ). front ++ key) c.new-key.ensures.items
    ∙ key_by_records c.args.records.now.lines c.args.options c.args.preferences c.in_ok-collator.collator c.as_borrowed.result c.keep_rules.ensures.accepted
    (of_given (IsCollatorOf c.args.records.now.lines c.args.options c.args.preferences) c.collator_of.result c.in_ok-collator.collator c.in_ok-collator.ensures.value c.collator_of.ensures)
    c.as_borrowed.ensures.source c.as_borrowed.ensures.options c.args.text.now
