use Rattle.std.proofs.Common.{sym, ap, ◌++◌, ◌∙◌, append-nil, arith, take}
use Rattle.icu_normalizer.specs.Sinks.{nothing}
use Rattle.icu_normalizer.proofs.writing.WriterLemmas.{nothing_due}
use Rattle.icu_normalizer.proofs.decomposing.writer.Writer.flush.Goals as goal

pub returns-then-self-eq0-clause-ok : goal.returns-then-self-eq0-clause-ok
returns-then-self-eq0-clause-ok g c =
    let b = c.args.self.now in
    sym (ap (λ l. g.T.WriteTo.contents c.args.sink.now ++ l) (nothing_due g.T.Text.encode g.met.T.Text.encoding b (ap (λ n. take n b.few ++ b.more.items) c.if-self-eq0.true ∙ b.full (omega (arith, c.if-self-eq0.true)))) ∙ append-nil _)

pub returns-then-self-eq0-clause-failure : goal.returns-then-self-eq0-clause-failure
returns-then-self-eq0-clause-failure g c = nothing _
