use Rattle.std.proofs.Common.{◌∙◌, ap, arith, sym, subst}
use Rattle.collate_name_list.specs.Slots.{AreFronted, slots_of}
use Rattle.collate_name_list.proofs.SettledLemmas.{fronts_kept, settled_all, settled_first}
use Rattle.collate_name_list.proofs.keys.ordered.Goals as goal

pub slots-init : goal.slots-init
slots-init c = record {
  order = ap slots_of c.in_ok-ranked.ensures ∙ settled_first c.args.slots.now c.args.keys.now c.args.by_key.now c.requires.order;
  fronts = subst (AreFronted c.args.slots.now) (sym c.in_ok-ranked.ensures) (fronts_kept c.args.slots.now c.args.keys.now c.args.by_key.now c.requires.fronts);
}

pub returns-clause-order : goal.returns-clause-order
returns-clause-order c = c.slots.invariant.order ∙ settled_all c.args.slots.now c.args.keys.now c.slots.slot (omega (arith, c.slots-test.false))
