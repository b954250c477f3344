use Rattle.std.proofs.Common.{rules, ◌≡◌, ℕ, None, sym, ap, arith}
use Rattle.std.specs.BTreeMap.{get}
use Rattle.std.specs.Ordering.{nat_cmp}
use Rattle.icu_normalizer_core.specs.declared.builder.given.GivenCompatibility.{GivenCompatibility}
use Rattle.icu_normalizer_core.proofs.settling.SettlingLemmas.{got_at}
use Rattle.icu_normalizer_core.proofs.building.FirstMappingLemmas.{all_indices_noted, no_index_noted, index_noted}
use Rattle.icu_normalizer_core.proofs.builder.mappings.first_indices.Goals as goal

pub loop-index-init : goal.loop-index-init
loop-index-init c =
    let none : (k : ℕ) → get nat_cmp c.new-indices.result k ≡ None = search rules in
    no_index_noted c.args.given.now c.new-indices.result none

pub loop-index-preserved : goal.loop-index-preserved
loop-index-preserved c =
    index_noted c.args.given.now c.loop-index.index _ c.index-given-index.result c.loop-index.indices c.note_index.new.indices c.loop-index-test.true
    (got_at c.args.given.now c.loop-index.index c.index-given-index.result c.loop-index-test.true c.index-given-index.is) c.index-given-index.is
    (ap (λ (g : GivenCompatibility). g.character) (sym c.index-given-index.is)) c.loop-index.invariant c.in_ok-note_index.ensures

pub returns : goal.returns
returns c = all_indices_noted c.args.given.now c.loop-index.index c.loop-index.indices (let past = c.loop-index-test.false in omega (arith, past)) c.loop-index.invariant
