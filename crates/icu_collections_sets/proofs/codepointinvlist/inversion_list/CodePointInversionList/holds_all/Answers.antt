use Rattle.std.proofs.Common.{subst, arith, IsTrue, nat_lt, ◌↔◌}
use Rattle.std.proofs.lemmas.Bool.Decides.{nat_tests}
use Rattle.icu_collections_sets.proofs.sets.InversionListLemmas.{HoldsStretch, stretch_held, stretch_out}
use Rattle.icu_collections_sets.proofs.codepointinvlist.inversion_list.CodePointInversionList.holds_all.Goals as goal

pub returns-then-index-eq1 : goal.returns-then-index-eq1
returns-then-index-eq1 c =
    let first = c.args.first in
    let last = c.args.last in
    subst (λ xs. IsTrue (nat_lt last c.at.result) ↔ HoldsStretch xs first last) c.self.view_is
    (stretch_held c.self.inside.edges first last c.edges_up_to-index.result c.at.result c.self.invariant (omega arith) c.edges_up_to-index.ensures c.if-index-eq1.true c.at.ensures.item)

pub returns-else-index-eq1 : goal.returns-else-index-eq1
returns-else-index-eq1 c =
    let first = c.args.first in
    let last = c.args.last in (
      λ t. absurd (c.if-index-eq1.false (grind (arith, nat_tests))),
      λ held. absurd (stretch_out c.self.inside.edges first last c.edges_up_to-index.result (omega arith) c.edges_up_to-index.ensures c.if-index-eq1.false
          (rw c.self.view_is held)),
    )
