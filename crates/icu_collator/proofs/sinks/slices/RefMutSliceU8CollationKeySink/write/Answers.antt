use Rattle.std.proofs.Common.{◌+◌, ◌≤◌, min, length, ◌∙◌, ap, arith}
use Rattle.icu_collator.specs.Sinks.{greatest_count, overlaid, written_at}
use Rattle.icu_collator.proofs.CollatorSinkLemmas.{counted_more, length_overlaid, overlaid_more}
use Rattle.icu_collator.proofs.sinks.slices.RefMutSliceU8CollationKeySink.write.Goals as goal

pub returns-clause-ok : goal.returns-clause-ok
returns-clause-ok c = λ first before taken.
    let bytes = c.args.bytes.now in
    let bounded : length first.now ≤ greatest_count =
    omega (arith, ap length taken.0.contents, length_overlaid first.now before, c.write_at.ensures.bounded) in
    let contents =
    c.write_at.ensures.written ∙ ap (λ l. written_at l c.args.count.now bytes) taken.0.contents
    ∙ ap (λ n. written_at (overlaid first.now before) n bytes) taken.1 ∙ overlaid_more first.now before bytes bounded in
    let counts = c.write_at.ensures.counted ∙ ap (λ n. min (n + length bytes) greatest_count) taken.1 ∙ counted_more before bytes in
    (record { same_reference = taken.0.same_reference; contents = contents }, counts)
