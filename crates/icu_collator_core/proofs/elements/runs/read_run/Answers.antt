use Rattle.std.proofs.Common.{◌∙◌, ℕ, List, subst}
use Rattle.std.specs.Option.{is_some}
use Rattle.icu_collator_core.specs.Acceptance.{CollationSource}
use Rattle.icu_collator_core.specs.ElementLists.{unpacked}
use Rattle.icu_collator_core.specs.ReadSources.{canonical_by, weights_by}
use Rattle.icu_collator_core.specs.ReadSteps.{IsRead}
use Rattle.icu_collator_core.proofs.elements.runs.read_run.Goals as goal

pub returns-then-next-index-clause-read : goal.returns-then-next-index-clause-read
returns-then-next-index-clause-read c =
    let source = c.args.checked.now in
    let numeric = c.args.numeric in
    let index = c.args.index in
    let next = c.in_ok-next.next in
    let before = unpacked c.args.ready.now.items in
    let behind = unpacked c.push_alone.new.elements.items in
    subst (λ (l : List ℕ). IsRead (canonical_by source) (weights_by numeric source) (is_some numeric) l index before l next behind) c.deref.ensures (c.in_ok-next.ensures.read numeric)

pub returns-clause-read : goal.returns-clause-read
returns-clause-read c =
    let source = c.args.checked.now in
    let numeric = c.args.numeric in
    let index = c.args.index in
    let next = c.in_ok-next.next in
    let before = unpacked c.args.ready.now.items in
    let behind = unpacked c.push_alone.new.elements.items in
    subst (λ (s : CollationSource). IsRead (canonical_by s) (weights_by numeric s) (is_some numeric) c.args.list.now.items next behind c.read_next.new.list.items c.in_ok-after.after
    (unpacked c.read_next.new.ready.items)) c.sound.ensures c.in_ok-after.ensures.read
    ∙ subst (λ (l : List ℕ). IsRead (canonical_by source) (weights_by numeric source) (is_some numeric) l index before l next behind) c.deref.ensures (c.in_ok-next.ensures.read numeric)
