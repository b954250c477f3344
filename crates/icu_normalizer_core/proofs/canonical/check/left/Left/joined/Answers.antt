use Rattle.std.proofs.Common.{rules, ◌<◌, length}
use Rattle.icu_normalizer_core.specs.Settled.{left_items}
use Rattle.icu_normalizer_core.proofs.settling.SettledLemmas.{cut_begun, cut_more}
use Rattle.icu_normalizer_core.proofs.canonical.check.left.Left.joined.Goals as goal

pub loop-i-init : goal.loop-i-init
loop-i-init c = cut_begun c.args.self.count c.args.self.characters c.args.self.fits

pub loop-i-preserved : goal.loop-i-preserved
loop-i-preserved c =
    let inside : c.loop-i.i < length c.args.other.characters = search rules in
    cut_more (left_items c.args.self) c.args.other.characters (left_items c.loop-i.left) (left_items c.with-left.result) c.loop-i.i inside c.loop-i.invariant c.with-left.ensures
