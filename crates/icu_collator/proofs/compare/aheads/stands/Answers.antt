use Rattle.std.proofs.Common.{◌≡◌, [], Option, Some, rules, subst, ℕ}
use Rattle.std.specs.Prelude.{MatchOption}
use Rattle.icu_normalizer_core.specs.Canonical.{IsDecomposing}
use Rattle.icu_collator_core.specs.ReadSources.{canonical_by}
use Rattle.icu_collator.specs.Aheads.{IsLeft, IsReadAhead}
use Rattle.icu_collator.proofs.orders.AheadLemmas.{left_otherwise, stands_before, stands_closed, stands_out}
use Rattle.icu_collator.proofs.compare.aheads.stands.Goals as goal

pub returns-then-class-eq0 : goal.returns-then-class-eq0
returns-then-class-eq0 g c = λ told t items ok h.
    let source = c.args.checked.now in
    let decomposing : IsDecomposing (canonical_by source) = search rules in
    stands_closed source c.args.numeric g.I.Iterator.next_gives t decomposing ok c.args.text.held c.args.text.chars items
    (subst (λ (n : ℕ). IsReadAhead source c.args.numeric g.I.Iterator.next_gives t c.args.text.held c.args.text.chars n items) c.if-class-eq0.true h)

pub returns-in-Some : goal.returns-in-Some
returns-in-Some g c = λ told t items ok h.
    let source = c.args.checked.now in
    let decomposing : IsDecomposing (canonical_by source) = search rules in
    let taken = c.take_next-taken in
    let left : IsLeft g.I.Iterator.next_gives (Some c.in-Some.c) taken.result.1 h.rest =
    subst (λ (o : Option ℕ). MatchOption o (h.rest ≡ []) (λ d. IsLeft g.I.Iterator.next_gives (Some d) taken.result.1 h.rest)) c.in-Some.is (taken.ensures.taken h.rest h.left) in
    stands_before source c.args.numeric g.I.Iterator.next_gives t decomposing ok taken.result.1 c.in-Some.c c.args.text.read.class items
    (left_otherwise source c.args.numeric g.I.Iterator.next_gives t c.args.text.held (Some c.in-Some.c) c.args.text.chars taken.result.1 c.args.text.read.class items h left)
    (c.starts_behind.ensures told)

pub returns : goal.returns
returns g c = λ told t items ok h.
    let taken = c.take_next-taken in
    stands_out c.args.checked.now c.args.numeric g.I.Iterator.next_gives t c.args.text.held c.args.text.chars c.args.text.read.class items h
    (subst (λ (o : Option ℕ). MatchOption o (h.rest ≡ []) (λ d. IsLeft g.I.Iterator.next_gives (Some d) taken.result.1 h.rest)) c.in-None.is (taken.ensures.taken h.rest h.left))
