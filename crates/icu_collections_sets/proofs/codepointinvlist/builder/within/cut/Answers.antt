use Rattle.std.proofs.Common.{◌≡◌, ◌%◌, ◌==◌, ◌++◌, ◌∷◌, [], true, false, take, sym, ap, subst, ◌∙◌, arith}
use Rattle.std.proofs.lemmas.Bool.Decides.{nat_tests}
use Rattle.std.proofs.lemmas.List.{append-nil}
use Rattle.icu_collections_sets.specs.CodePoints.{IsInversionList}
use Rattle.icu_collections_sets.specs.SetEdits.{IsSetTo, IsCountBelow, is_within}
use Rattle.icu_collections_sets.proofs.edits.ToggleLemmas.{set_cut}
use Rattle.icu_collections_sets.proofs.codepointinvlist.builder.within.cut.Goals as goal

-- the last range is cut
within_range : (c : goal.In-Ok) → IsInversionList c.push.new.self.items × IsSetTo false (is_within c.args.till 0x11_0000) c.args.edges.now.items c.push.new.self.items
within_range c =
    let xs = c.args.edges.now.items in
    let index = c.index_of-index.result in
    let count = subst (λ ys. IsCountBelow ys c.args.till index) c.as_slice.ensures.value c.index_of-index.ensures in
    let odd : (index % 2 == 1) ≡ true = (let h = c.if-index-eq1.true in grind (arith, nat_tests)) in
    set_cut xs c.push.new.self.items index c.args.till c.requires.list c.requires.end count
    (rw odd (c.in-Ok.ensures.items ∙ ap (λ ys. ys ++ c.args.till ∷ []) c.truncate.ensures.items))

pub returns-in-Ok-clause-list : goal.returns-in-Ok-clause-list
returns-in-Ok-clause-list c = (within_range c).0

pub returns-in-Ok-clause-cut : goal.returns-in-Ok-clause-cut
returns-in-Ok-clause-cut c = (within_range c).1

-- the cut is between ranges
between_ranges : (c : goal.Else-index-eq1) → IsInversionList c.truncate.new.self.items × IsSetTo false (is_within c.args.till 0x11_0000) c.args.edges.now.items c.truncate.new.self.items
between_ranges c =
    let xs = c.args.edges.now.items in
    let index = c.index_of-index.result in
    let count = subst (λ ys. IsCountBelow ys c.args.till index) c.as_slice.ensures.value c.index_of-index.ensures in
    let even : (index % 2 == 1) ≡ false = (let h = c.if-index-eq1.false in grind (arith, nat_tests)) in
    set_cut xs c.truncate.new.self.items index c.args.till c.requires.list c.requires.end count
    (rw even (c.truncate.ensures.items ∙ sym (append-nil (take index xs))))

pub returns-else-index-eq1-clause-list : goal.returns-else-index-eq1-clause-list
returns-else-index-eq1-clause-list c = (between_ranges c).0

pub returns-else-index-eq1-clause-cut : goal.returns-else-index-eq1-clause-cut
returns-else-index-eq1-clause-cut c = (between_ranges c).1
