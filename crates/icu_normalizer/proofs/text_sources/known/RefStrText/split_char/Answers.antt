use Rattle.std.proofs.Common.{◌++◌, ap, sym, ◌∙◌, encode_utf8}
use Rattle.icu_normalizer.proofs.passed.FormTextLemmas.{str_first}
use Rattle.icu_normalizer.proofs.text_sources.known.RefStrText.split_char.Goals as goal

pub returns-clause-some : goal.returns-clause-some
returns-clause-some c =
    str_first _ _ c.in_ok-c.c c.utf8.self
    (sym c.chars-chars.ensures.rest ∙ c.in_ok-c.ensures.steps.0 ∙ ap (λ l. encode_utf8 c.in_ok-c.c ++ l) (sym c.as_str.ensures))
