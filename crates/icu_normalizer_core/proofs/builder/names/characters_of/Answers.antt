use Rattle.std.proofs.Common.{◌≡◌, ◌≤◌, ◌++◌, ℕ, List, All, ap, sym, subst, ◌∙◌, arith}
use Rattle.std.specs.Char.{IsScalar}
use Rattle.std.proofs.lemmas.List.Elements.{All-append}
use Rattle.icu_normalizer_core.specs.CanonicalMaps.{named}
use Rattle.icu_normalizer_core.specs.CharacterWords.{HasNamed, built_in_named}
use Rattle.icu_normalizer_core.specs.Named.{AreDistinctOf, block_count, narrow_block, wide_block}
use Rattle.icu_normalizer_core.proofs.building.NamedLemmas.{blocks_joined, built_in_scalars, has_named, named_count}
use Rattle.icu_normalizer_core.proofs.builder.names.characters_of.Goals as goal

pub returns-clause-named : goal.returns-clause-named
returns-clause-named c =
    let of : AreDistinctOf (named (record { classes = c.args.classes.now; mappings = c.args.mappings.now })) c.in-Ok.given.items =
    subst (λ (xs : List ℕ). AreDistinctOf xs c.in-Ok.given.items) (c.as_slice.ensures.value ∙ c.in_ok-all.ensures) c.in-Ok.ensures.distinct in
    let is : c.in_ok-list.list.items ≡ built_in_named ++ c.in-Ok.given.items = c.in_ok-list.ensures ∙ ap (λ (xs : List ℕ). built_in_named ++ xs) c.as_slice-2.ensures.value in
    subst (HasNamed c.args.classes.now c.args.mappings.now) (sym is) (has_named c.args.classes.now c.args.mappings.now c.in-Ok.given.items of)

pub returns-clause-scalars : goal.returns-clause-scalars
returns-clause-scalars c =
    let is : c.in_ok-list.list.items ≡ built_in_named ++ c.in-Ok.given.items = c.in_ok-list.ensures ∙ ap (λ (xs : List ℕ). built_in_named ++ xs) c.as_slice-2.ensures.value in
    subst (All IsScalar) (sym is) (All-append IsScalar built_in_named c.in-Ok.given.items built_in_scalars c.in-Ok.ensures.scalars)

pub returns-clause-within : goal.returns-clause-within
returns-clause-within c =
    let of : AreDistinctOf (named (record { classes = c.args.classes.now; mappings = c.args.mappings.now })) c.in-Ok.given.items =
    subst (λ (xs : List ℕ). AreDistinctOf xs c.in-Ok.given.items) (c.as_slice.ensures.value ∙ c.in_ok-all.ensures) c.in-Ok.ensures.distinct in
    let count = named_count (named (record { classes = c.args.classes.now; mappings = c.args.mappings.now })) c.in-Ok.given.items of in
    let few = c.in-Ok.ensures.few in
    omega (arith, count, few)

pub returns-clause-wide : goal.returns-clause-wide
returns-clause-wide c =
    let is : c.in_ok-list.list.items ≡ built_in_named ++ c.in-Ok.given.items = c.in_ok-list.ensures ∙ ap (λ (xs : List ℕ). built_in_named ++ xs) c.as_slice-2.ensures.value in
    subst (λ (xs : List ℕ). block_count wide_block xs ≤ 717) (sym is) (omega (arith, blocks_joined wide_block built_in_named c.in-Ok.given.items, c.in-Ok.ensures.blocks.wide))

pub returns-clause-narrow : goal.returns-clause-narrow
returns-clause-narrow c =
    let is : c.in_ok-list.list.items ≡ built_in_named ++ c.in-Ok.given.items = c.in_ok-list.ensures ∙ ap (λ (xs : List ℕ). built_in_named ++ xs) c.as_slice-2.ensures.value in
    subst (λ (xs : List ℕ). block_count narrow_block xs ≤ 11017) (sym is) (omega (arith, blocks_joined narrow_block built_in_named c.in-Ok.given.items, c.in-Ok.ensures.blocks.narrow))
