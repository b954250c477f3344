use Rattle.std.proofs.Common.{◌++◌, sym, ap, ◌∙◌}
use Rattle.icu_normalizer.specs.Sinks.{nothing}
use Rattle.icu_normalizer.specs.Writer.{held}
use Rattle.icu_normalizer.proofs.writing.WriterLemmas.{due_kept, list_kept}
use Rattle.icu_normalizer.proofs.decomposing.writer.Writer.write_decomposed.Goals as goal

pub returns-in-Some-clause-ok : goal.returns-in-Some-clause-ok
returns-in-Some-clause-ok g c =
    due_kept g.T.Text.encode g.met.T.Text.encoding c.args.self.now c.append.new.self _ _
    (list_kept c.args.self.now c.append.new.self _ c.append.ensures.same
    (c.append.ensures.held ∙ ap (λ l. held c.args.self.now ++ l) (sym c.in-Some.ensures.full_is)))

pub returns-in-Some-clause-failure : goal.returns-in-Some-clause-failure
returns-in-Some-clause-failure g c = nothing _
