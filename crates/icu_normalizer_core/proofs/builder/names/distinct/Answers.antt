use Rattle.std.proofs.Common.{◌+◌, ◌≤◌, ℕ, List, [], All, inr, length, refl, sym, subst, take, arith, rules}
use Rattle.std.specs.Char.{IsScalar}
use Rattle.std.proofs.lemmas.List.Elements.{All-nil}
use Rattle.icu_normalizer_core.specs.Named.{AreDistinctOf, HasThese}
use Rattle.icu_normalizer_core.proofs.building.NamedLemmas.{distinct_none, many_named, named_more}
use Rattle.icu_normalizer_core.proofs.builder.names.distinct.Goals as goal

pub loop-c-init : goal.loop-c-init
loop-c-init c =
    subst (λ (xs : List ℕ). AreDistinctOf [] xs × (length xs ≤ c.args.limit) × All IsScalar xs × HasThese c.new-seen.result xs) (sym c.new-list.ensures.items)
    (distinct_none, omega arith, All-nil IsScalar, λ d. search rules)

pub returns-then-len-limit-clause-refused : goal.returns-then-len-limit-clause-refused
returns-then-len-limit-clause-refused c =
    let of : AreDistinctOf (take (c.loop-c.c-index + 1) c.args.all.now) c.add_new.new.list.items =
    named_more c.args.all.now c.loop-c.c-index c.c-item.result c.loop-c.list.items c.add_new.new.list.items c.loop-c.invariant.0 c.loop-c-test.true c.c-item.is c.in_ok-add_new.ensures.added in
    let many = many_named c.args.all.now (c.loop-c.c-index + 1) c.add_new.new.list.items of in
    let long = c.if-len-limit.true in
    inr (refl, omega (arith, many, long))

pub loop-c-preserved : goal.loop-c-preserved
loop-c-preserved c =
    let few = c.if-len-limit.false in (
      named_more c.args.all.now c.loop-c.c-index c.c-item.result c.loop-c.list.items c.add_new.new.list.items c.loop-c.invariant.0 c.loop-c-test.true c.c-item.is c.in_ok-add_new.ensures.added,
      omega (arith, few),
      c.in_ok-add_new.ensures.scalars,
      c.in_ok-add_new.ensures.seen,
    )

pub returns-clause-scalars : goal.returns-clause-scalars
returns-clause-scalars c = c.loop-c.invariant.2
