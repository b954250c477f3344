use Rattle.std.proofs.Common.{◌++◌, ◌∙◌, append_assoc}
use Rattle.icu_collator.proofs.sinks.list_sinks.VecDequeU8CollationKeySink.write.Goals as goal

pub returns-in-Err-clause-err : goal.returns-in-Err-clause-err
returns-in-Err-clause-err c =
    λ first before after taken. (before, c.args.bytes.now ++ after, append_assoc before c.args.bytes.now after, c.in-Err.ensures.err ∙ taken)
