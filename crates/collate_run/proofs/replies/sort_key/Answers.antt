use Rattle.std.proofs.Common.{ℕ, List, ◌++◌, ap, ◌∙◌}
use Rattle.icu_normalizer_core.specs.Decoding.{utf8_chars}
use Rattle.icu_normalizer_core.proofs.decoded.DecodedLemmas.{utf8_scalars}
use Rattle.icu_collator.specs.CollatorAnswers.{key_by}
use Rattle.collate_run.proofs.replies.sort_key.Goals as goal

pub returns-in-Ok : goal.returns-in-Ok
returns-in-Ok c =
    let text = utf8_chars c.args.name.now in
    c.in-Ok.ensures.written
    ∙ ap (λ (front : List ℕ). front ++ key_by c.collator.result text) c.new-key.ensures.items
    ∙ c.collator.ensures.keys text (utf8_scalars c.args.name.now)
