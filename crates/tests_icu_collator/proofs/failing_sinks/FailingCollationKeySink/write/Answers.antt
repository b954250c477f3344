use Rattle.std.proofs.Common.{◌++◌, ◌∙◌, ap, append_assoc}
use Rattle.tests_icu_collator.proofs.failing_sinks.FailingCollationKeySink.write.Goals as goal

pub returns-in-Err-clause-err : goal.returns-in-Err-clause-err
returns-in-Err-clause-err c =
    λ first before after taken. (
      before,
      c.args.bytes.now ++ after,
      append_assoc before c.args.bytes.now after,
      c.in-Err.ensures.items ∙ ap (λ v. v.items) c.in_ok-count.ensures ∙ taken,
    )
