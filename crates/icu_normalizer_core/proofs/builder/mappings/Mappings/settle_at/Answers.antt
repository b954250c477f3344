use Rattle.std.proofs.Common.{◌≡◌, ℕ, ◌<◌, List, length, sym, ap, subst, ◌∙◌, arith}
use Rattle.std.specs.List.{All}
use Rattle.std.specs.Char.{IsScalar}
use Rattle.icu_normalizer_core.specs.declared.builder.given.GivenCompatibility.{GivenCompatibility}
use Rattle.icu_normalizer_core.specs.CanonicalMeaning.{meaning}
use Rattle.icu_normalizer_core.specs.SettledMappings.{HasOpen, StartsLeft, mapping_at, steps_in}
use Rattle.icu_normalizer_core.proofs.settling.SettlingLemmas.{fewer_open, got_at, open_read}
use Rattle.icu_normalizer_core.proofs.building.SettledMappingLemmas.{mapping_is, mapping_written}
use Rattle.icu_normalizer_core.proofs.builder.mappings.Mappings.settle_at.Goals as goal

pub returns-clause-starts : goal.returns-clause-starts
returns-clause-starts c =
    let n = c.requires.starts.count in
    let h = c.requires.inside in
    let got = got_at c.args.self.given.now c.args.index c.index-self-index.result h c.index-self-index.is in
    let at : mapping_at c.args.self.given.now c.args.index ≡ c.as_slice.result.now = mapping_is c.args.self.given.now c.args.index c.index-self-index.result got ∙ ap (λ (g : GivenCompatibility). g.mapping.items) c.index-self-index.is ∙ sym c.as_slice.ensures.value in
    mapping_written (steps_in c.args.self) c.args.self.given.now c.args.settled.now c.args.index c.in-Some.left h c.requires.starts
    (subst (λ (xs : List ℕ). StartsLeft (steps_in c.args.self) xs c.in-Some.left) (sym at) c.in-Some.ensures)

pub mapping_left-requires-clause-scalars : goal.mapping_left-requires-clause-scalars
mapping_left-requires-clause-scalars c =
    subst (All IsScalar) (sym c.as_slice.ensures.value) (c.requires.sound.given c.args.index c.index-self-index.result c.requires.inside).mapping

pub returns-in_default-clause-open : goal.returns-in_default-clause-open
returns-in_default-clause-open c = λ none e.
    let got = got_at c.args.self.given.now c.args.index c.index-self-index.result c.requires.inside c.index-self-index.is in
    let at : mapping_at c.args.self.given.now c.args.index ≡ c.as_slice.result.now = mapping_is c.args.self.given.now c.args.index c.index-self-index.result got ∙ ap (λ (g : GivenCompatibility). g.mapping.items) c.index-self-index.is ∙ sym c.as_slice.ensures.value in
    subst (HasOpen (meaning c.args.self.tables.now).full c.args.self.given.now c.args.settled.now) (sym at) c.in_default.ensures

pub returns-clause-progress : goal.returns-clause-progress
returns-clause-progress c = λ happened.
    let n = c.requires.starts.count in
    let h = c.requires.inside in
    let inside : c.args.index < length c.args.settled.now = omega arith in
    fewer_open c.args.settled.now c.args.index c.in-Some.left (open_read c.args.settled.now c.args.index c.index-settled-index.result inside c.if-is_some.ensures)
