use Rattle.std.proofs.Common.{refl, sym}
use Rattle.collate_merge.specs.Merges.{merge_of}
use Rattle.collate_merge.proofs.merge.merge_lines.Goals as goal

pub returns-in-Err-clause-told : goal.returns-in-Err-clause-told
returns-in-Err-clause-told g c = λ files known. c.in-Err.ensures.told (merge_of c.args.order.now c.args.part c.args.unique c.args.separator) files known

pub returns-clause-merged : goal.returns-clause-merged
returns-clause-merged g c = λ files known.
    let m = merge_of c.args.order.now c.args.part c.args.unique c.args.separator in
    (c.merge_sources.ensures m files (refl, refl) (c.in-Ok.ensures.opened m files (refl, refl, refl) known) (c.new-output.ensures m (sym c.direction.ensures) refl refl)).merged

pub returns-clause-ordered : goal.returns-clause-ordered
returns-clause-ordered g c = λ files known.
    let m = merge_of c.args.order.now c.args.part c.args.unique c.args.separator in
    (c.merge_sources.ensures m files (refl, refl) (c.in-Ok.ensures.opened m files (refl, refl, refl) known) (c.new-output.ensures m (sym c.direction.ensures) refl refl)).ordered

pub returns-clause-first_part : goal.returns-clause-first_part
returns-clause-first_part g c = λ files known.
    let m = merge_of c.args.order.now c.args.part c.args.unique c.args.separator in
    (c.merge_sources.ensures m files (refl, refl) (c.in-Ok.ensures.opened m files (refl, refl, refl) known) (c.new-output.ensures m (sym c.direction.ensures) refl refl)).first_part

pub returns-clause-told : goal.returns-clause-told
returns-clause-told g c = λ files known.
    let m = merge_of c.args.order.now c.args.part c.args.unique c.args.separator in
    (c.merge_sources.ensures m files (refl, refl) (c.in-Ok.ensures.opened m files (refl, refl, refl) known) (c.new-output.ensures m (sym c.direction.ensures) refl refl)).told
