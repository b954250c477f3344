use Rattle.std.proofs.Common.{[], subst, append-nil}
use Rattle.icu_collator.proofs.sinks.whole.write_key.Goals as goal

pub returns-in-Err-clause-err : goal.returns-in-Err-clause-err
returns-in-Err-clause-err g c =
    let begins = g.met.S.CollationKeySink.begins c.args.sink.now _ (g.met.S.CollationKeySink.starts _ c.default-state.ensures) in
    subst (λ l. g.S.CollationKeySink.has_failed c.args.sink.now l c.write.new.self c.in-Err.error) (append-nil c.args.key.now) (c.in-Err.ensures.err c.args.sink.now [] [] begins)

pub returns-in-Ok-clause-ok : goal.returns-in-Ok-clause-ok
returns-in-Ok-clause-ok g c =
    let begins = g.met.S.CollationKeySink.begins c.args.sink.now _ (g.met.S.CollationKeySink.starts _ c.default-state.ensures) in
    c.in-Ok.ensures.ok c.args.sink.now c.args.key.now (c.in_default.ensures.ok c.args.sink.now [] begins)

pub returns-in-Err-finish-clause-err : goal.returns-in-Err-finish-clause-err
returns-in-Err-finish-clause-err g c =
    let begins = g.met.S.CollationKeySink.begins c.args.sink.now _ (g.met.S.CollationKeySink.starts _ c.default-state.ensures) in
    c.in-Err-finish.ensures.err c.args.sink.now c.args.key.now (c.in_default.ensures.ok c.args.sink.now [] begins)
