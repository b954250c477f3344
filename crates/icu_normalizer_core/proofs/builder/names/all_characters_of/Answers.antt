use Rattle.std.proofs.Common.{◌≡◌, ◌≤◌, ◌++◌, ◌∷◌, [], ℕ, List, All, ap, sym, subst, ◌∙◌, arith}
use Rattle.std.specs.Char.{IsScalar}
use Rattle.std.proofs.lemmas.List.Elements.{All-append}
use Rattle.icu_normalizer_core.specs.CharacterWords.{built_in_named}
use Rattle.icu_normalizer_core.specs.CompatibilityMaps.{AllMaps, all_named}
use Rattle.icu_normalizer_core.specs.Named.{AreDistinctOf, block_count, narrow_block, wide_block}
use Rattle.icu_normalizer_core.specs.SettledMappings.{HasAllNamed}
use Rattle.icu_normalizer_core.proofs.building.NamedLemmas.{blocks_joined, built_in_scalars, compatible_scalars, has_all_named, named_count}
use Rattle.icu_normalizer_core.proofs.builder.names.all_characters_of.Goals as goal

pub returns-clause-named : goal.returns-clause-named
returns-clause-named c =
    let maps : AllMaps = record { canonical = record { classes = c.args.classes.now; mappings = c.args.mappings.now }; compatibilities = c.args.given.now } in
    let of : AreDistinctOf (all_named maps) c.in-Ok.named.items =
    subst (λ (xs : List ℕ). AreDistinctOf xs c.in-Ok.named.items) (c.as_slice.ensures.value ∙ c.in_ok-all.ensures) c.in-Ok.ensures.distinct in
    let others : c.in_ok-others.others.items ≡ built_in_named ++ c.in-Ok.named.items = c.in_ok-others.ensures ∙ ap (λ (xs : List ℕ). built_in_named ++ xs) c.as_slice-2.ensures.value in
    let is : c.in_ok-list.list.items ≡ (0xff9e ∷ 0xff9f ∷ []) ++ (built_in_named ++ c.in-Ok.named.items) =
    c.in_ok-list.ensures ∙ ap (λ (xs : List ℕ). (0xff9e ∷ 0xff9f ∷ []) ++ xs) (c.as_slice-3.ensures.value ∙ others) in
    subst (HasAllNamed c.args.classes.now c.args.mappings.now c.args.given.now) (sym is)
    (has_all_named c.args.classes.now c.args.mappings.now c.args.given.now c.in-Ok.named.items of)

pub returns-clause-scalars : goal.returns-clause-scalars
returns-clause-scalars c =
    let others : c.in_ok-others.others.items ≡ built_in_named ++ c.in-Ok.named.items = c.in_ok-others.ensures ∙ ap (λ (xs : List ℕ). built_in_named ++ xs) c.as_slice-2.ensures.value in
    let is : c.in_ok-list.list.items ≡ (0xff9e ∷ 0xff9f ∷ []) ++ (built_in_named ++ c.in-Ok.named.items) =
    c.in_ok-list.ensures ∙ ap (λ (xs : List ℕ). (0xff9e ∷ 0xff9f ∷ []) ++ xs) (c.as_slice-3.ensures.value ∙ others) in
    subst (All IsScalar) (sym is) (All-append IsScalar (0xff9e ∷ 0xff9f ∷ []) (built_in_named ++ c.in-Ok.named.items) compatible_scalars
    (All-append IsScalar built_in_named c.in-Ok.named.items built_in_scalars c.in-Ok.ensures.scalars))

pub returns-clause-within : goal.returns-clause-within
returns-clause-within c =
    let maps : AllMaps = record { canonical = record { classes = c.args.classes.now; mappings = c.args.mappings.now }; compatibilities = c.args.given.now } in
    let of : AreDistinctOf (all_named maps) c.in-Ok.named.items =
    subst (λ (xs : List ℕ). AreDistinctOf xs c.in-Ok.named.items) (c.as_slice.ensures.value ∙ c.in_ok-all.ensures) c.in-Ok.ensures.distinct in
    let count = named_count (all_named maps) c.in-Ok.named.items of in
    let few = c.in-Ok.ensures.few in
    omega (arith, count, few)

pub returns-clause-wide : goal.returns-clause-wide
returns-clause-wide c =
    let others : c.in_ok-others.others.items ≡ built_in_named ++ c.in-Ok.named.items = c.in_ok-others.ensures ∙ ap (λ (xs : List ℕ). built_in_named ++ xs) c.as_slice-2.ensures.value in
    let is : c.in_ok-list.list.items ≡ (0xff9e ∷ 0xff9f ∷ []) ++ (built_in_named ++ c.in-Ok.named.items) =
    c.in_ok-list.ensures ∙ ap (λ (xs : List ℕ). (0xff9e ∷ 0xff9f ∷ []) ++ xs) (c.as_slice-3.ensures.value ∙ others) in
    subst (λ (xs : List ℕ). block_count wide_block xs ≤ 719) (sym is) (omega (arith, blocks_joined wide_block (0xff9e ∷ 0xff9f ∷ built_in_named) c.in-Ok.named.items, c.in-Ok.ensures.blocks.wide))

pub returns-clause-narrow : goal.returns-clause-narrow
returns-clause-narrow c =
    let others : c.in_ok-others.others.items ≡ built_in_named ++ c.in-Ok.named.items = c.in_ok-others.ensures ∙ ap (λ (xs : List ℕ). built_in_named ++ xs) c.as_slice-2.ensures.value in
    let is : c.in_ok-list.list.items ≡ (0xff9e ∷ 0xff9f ∷ []) ++ (built_in_named ++ c.in-Ok.named.items) =
    c.in_ok-list.ensures ∙ ap (λ (xs : List ℕ). (0xff9e ∷ 0xff9f ∷ []) ++ xs) (c.as_slice-3.ensures.value ∙ others) in
    subst (λ (xs : List ℕ). block_count narrow_block xs ≤ 11019) (sym is) (omega (arith, blocks_joined narrow_block (0xff9e ∷ 0xff9f ∷ built_in_named) c.in-Ok.named.items, c.in-Ok.ensures.blocks.narrow))

pub returns-clause-listed : goal.returns-clause-listed
returns-clause-listed c =
    let others : c.in_ok-others.others.items ≡ built_in_named ++ c.in-Ok.named.items = c.in_ok-others.ensures ∙ ap (λ (xs : List ℕ). built_in_named ++ xs) c.as_slice-2.ensures.value in
    record {
      named = c.in-Ok.named.items;
      distinct = c.in-Ok.ensures.distinct.distinct;
      scalars = c.in-Ok.ensures.scalars;
      is = c.in_ok-list.ensures ∙ ap (λ (xs : List ℕ). (0xff9e ∷ 0xff9f ∷ []) ++ xs) (c.as_slice-3.ensures.value ∙ others);
    }
