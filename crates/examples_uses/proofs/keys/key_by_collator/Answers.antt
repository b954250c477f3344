use Rattle.std.proofs.Common.{◌≡◌, ℕ, List, ◌++◌, ap, ◌∙◌}
use Rattle.icu_normalizer_core.specs.Decoding.{utf8_chars}
use Rattle.icu_collator.specs.CollatorAnswers.{key_by}
use Rattle.examples_uses.proofs.UseAnswerLemmas.{of_given}
use Rattle.examples_uses.proofs.keys.key_by_collator.Goals as goal

pub returns : goal.returns
returns c =
    let key = key_by c.args.collator.now (utf8_chars c.args.text.now) in
    of_given (λ _. c.write_sort_key_utf8_to.new.sink.items ≡ c.new-key.result.items ++ key)
    c.write_sort_key_utf8_to.result c.in_ok-ok.field-0 c.in_ok-ok.ensures.value c.write_sort_key_utf8_to.ensures.written
    ∙ ap (λ (front : List ℕ). front ++ key) c.new-key.ensures.items
