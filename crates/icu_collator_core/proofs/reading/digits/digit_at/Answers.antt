use Rattle.std.proofs.Common.{◌∙◌, None, sym}
use Rattle.icu_collator_core.proofs.reading.digits.digit_at.Goals as goal

pub returns-in_err-digit : goal.returns-in_err-digit
returns-in_err-digit c = c.from_residual.ensures ∙ c.in_err-digit.ensures ∙ sym (c.checked_word.ensures None).digit

pub returns : goal.returns
returns c = c.in_ok-digit.ensures ∙ sym (c.checked_word.ensures None).digit
