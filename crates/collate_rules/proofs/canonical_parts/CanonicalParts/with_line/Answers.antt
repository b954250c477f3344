use Rattle.collate_lines.specs.Record.{said}
use Rattle.std.proofs.lemmas.Result.{IfOk-weaker}
use Rattle.collate_rules.proofs.mappings.PartsOfLinesLemmas.{AreOf-push, AreOf-skip}
use Rattle.collate_rules.proofs.canonical_parts.CanonicalParts.with_line.Goals as goal

pub returns-in-Some : goal.returns-in-Some
returns-in-Some c = λ lines of.
    IfOk-weaker c.with.result _ _
    (λ parts e. AreOf-push c.args.self.list.items parts.list.items c.in-Some.part lines (said c.args.line.now) e c.in-Some.ensures of)
    c.with.ensures

pub returns-in-None : goal.returns-in-None
returns-in-None c = λ lines of. AreOf-skip c.args.self.list.items lines (said c.args.line.now) c.in-None.ensures of
