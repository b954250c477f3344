use Rattle.std.proofs.Common.{ℕ, List, map, sym, subst, ◌∙◌, arith}
use Rattle.collate_lines.specs.Record.{said, tailoring}
use Rattle.collate_compile.specs.Beginnings.{AreFew}
use Rattle.collate_compile.specs.LayerBuilds.{AreWritten}
use Rattle.collate_compile.proofs.building.BuildingGrowthLemmas.{room_at_first}
use Rattle.collate_compile.proofs.building.BuiltRoomLemmas.{built_narrow, built_wide}
use Rattle.collate_compile.proofs.building.LayerLemmas.{none_tailored}
use Rattle.collate_compile.proofs.building.SourceLemmas.{tailoring_built}
use Rattle.collate_compile.proofs.layers.write_tailoring.Goals as goal

pub write_characters-requires-clause-room : goal.write_characters-requires-clause-room
write_characters-requires-clause-room c =
    let lines = map said c.args.noted.now.lines.now in
    let few = subst (λ (cs : List ℕ). AreFew lines cs) (sym c.as_slice.ensures.value) c.in_ok-characters.ensures.few in
    room_at_first c.in_ok-layer.layer.pools _ _ c.in_ok-layer.ensures.pools (omega (arith, few.elements)) few.texts

pub build-requires-clause-wide : goal.build-requires-clause-wide
build-requires-clause-wide c =
    let lines = map said c.args.noted.now.lines.now in
    let few = subst (λ (cs : List ℕ). AreFew lines cs) (sym c.as_slice.ensures.value) c.in_ok-characters.ensures.few in
    let one = c.in_ok-layer.ensures.blocks in
    built_wide lines c.requires.accepted c.as_slice.result.now few _ _ c.in_ok-layer.layer
    c.write_characters.new.layer c.in_ok-layer.ensures.count (λ width. omega (arith, one width))
    c.in_ok-write_characters.ensures.size

pub build-requires-clause-narrow : goal.build-requires-clause-narrow
build-requires-clause-narrow c =
    let lines = map said c.args.noted.now.lines.now in
    let few = subst (λ (cs : List ℕ). AreFew lines cs) (sym c.as_slice.ensures.value) c.in_ok-characters.ensures.few in
    let one = c.in_ok-layer.ensures.blocks in
    built_narrow lines c.requires.accepted c.as_slice.result.now few _ _ c.in_ok-layer.layer
    c.write_characters.new.layer c.in_ok-layer.ensures.count (λ width. omega (arith, one width))
    c.in_ok-write_characters.ensures.size

pub returns-clause-tailoring : goal.returns-clause-tailoring
returns-clause-tailoring c =
    let lines = map said c.args.noted.now.lines.now in
    let layer = c.write_characters.new.layer in
    let written = c.in_ok-write_characters.ensures.written tailoring
    (none_tailored lines c.in_ok-layer.layer c.in_ok-layer.ensures.unwritten c.in_ok-layer.ensures.words) in
    tailoring_built lines c.in_ok-characters.characters.items layer c.in_ok-tailoring.tailoring
    c.in_ok-tailoring.ensures.cells c.in_ok-tailoring.ensures.words c.in_ok-tailoring.ensures.pools
    c.in_ok-characters.ensures.characters
    (subst (λ (cs : List ℕ). AreWritten tailoring lines cs layer) c.as_slice.ensures.value written)

pub returns-clause-trie_type : goal.returns-clause-trie_type
returns-clause-trie_type c =
    c.in_ok-tailoring.ensures.trie_type ∙ c.in_ok-write_characters.ensures.size.same.trie_type
    ∙ c.in_ok-layer.ensures.trie_type
