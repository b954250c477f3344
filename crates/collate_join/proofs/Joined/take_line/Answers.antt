use Rattle.std.proofs.Common.{sym, ◌∙◌}
use Rattle.collate_join.specs.Join.{stays}
use Rattle.collate_join.proofs.JoinLemmas.{kept_more, kept_past}
use Rattle.collate_join.proofs.Joined.take_line.Goals as goal

pub returns-then-not-stays : goal.returns-then-not-stays
returns-then-not-stays c = λ tailoring lines keyed left had number.
    kept_past c.args.self.now (stays tailoring) lines c.args.line.now (sym (c.stays.ensures tailoring keyed left) ∙ c.if-not-stays.true) had

pub returns : goal.returns
returns c = λ tailoring lines keyed left had number.
    kept_more c.args.self.now c.keep.new.self (stays tailoring) lines c.args.line.now c.args.number
    (sym (c.stays.ensures tailoring keyed left) ∙ c.if-not-stays.false) number had c.in_ok-keep.ensures.bytes c.in_ok-keep.ensures.kept
