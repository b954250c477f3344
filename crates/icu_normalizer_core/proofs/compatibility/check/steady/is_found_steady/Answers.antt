use Rattle.std.proofs.Common.{◌≡◌, subst}
use Rattle.icu_normalizer_core.specs.declared.canonical.tables.CanonicalTables.{CanonicalTables}
use Rattle.icu_normalizer_core.specs.Boundaries.{IsSteady}
use Rattle.icu_normalizer_core.specs.Canonical.{IsCanonical}
use Rattle.icu_normalizer_core.specs.CanonicalMeaning.{lists_of, meaning}
use Rattle.icu_normalizer_core.specs.Words.{word_lists, full_in}
use Rattle.icu_normalizer_core.proofs.compatible.SteadyCompatibilityLemmas.{steady_alike}
use Rattle.icu_normalizer_core.proofs.compatibility.check.steady.is_found_steady.Goals as goal

pub returns-then-is_steady : goal.returns-then-is_steady
returns-then-is_steady c = λ yes.
    let keeps = subst (λ (tables : CanonicalTables). IsCanonical (meaning tables)) c.as_borrowed.ensures.same c.as_borrowed.ensures.canonical in
    let steady = subst (λ (tables : CanonicalTables). IsSteady (meaning tables) c.args.c) c.as_borrowed.ensures.same (c.is_steady.ensures c.if-is_steady.true) in
    let same = subst (λ (tables : CanonicalTables). full_in (word_lists c.args.words) c.args.c ≡ (meaning tables).full c.args.c) c.tables.ensures.same (c.has_canonical_list.ensures yes) in
    steady_alike (lists_of c.args.canonical.now) (word_lists c.args.words) c.args.c keeps c.ranges.c.0 same steady
