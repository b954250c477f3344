use Rattle.std.proofs.Common.{ap, ap₂, take, ◌-◌, ◌∙◌}
use Rattle.icu_normalizer_core.specs.Decoding.{utf8_chars}
use Rattle.icu_normalizer.proofs.passed.FormTextLemmas.{part_before, utf8_reads}
use Rattle.icu_normalizer.proofs.text_sources.bytes.RefSliceU8Text.split_before.Goals as goal

pub returns-clause-front : goal.returns-clause-front
returns-clause-front c prefix behind =
    let front = part_before c.args.self.now _ c.args.rest.now behind.units _ (c.split_at.ensures.front ∙ ap₂ (λ x y. take (x - y) c.args.self.now) c.len.ensures c.len-2.ensures) in
    (front, ap utf8_chars front ∙ utf8_reads prefix behind.scalars)
