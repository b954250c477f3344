use Rattle.std.proofs.Common.{ℕ, ◌+◌, List, map, sym, subst, ◌∙◌, arith}
use Rattle.std.specs.Prelude.{count_by, sum_by}
use Rattle.collate_lines.specs.Record.{root, said}
use Rattle.collate_rules.specs.Rules.{is_range}
use Rattle.collate_compile.specs.Beginnings.{AreFew, elements_begun, texts_begun}
use Rattle.collate_compile.specs.LayerBuilds.{AreWritten}
use Rattle.collate_compile.proofs.building.BuildingGrowthLemmas.{room_at_first, room_left}
use Rattle.collate_compile.proofs.building.BuiltRoomLemmas.{built_narrow, built_wide, ranged_few}
use Rattle.collate_compile.proofs.building.LayerLemmas.{ranged_alone}
use Rattle.collate_compile.proofs.building.SourceLemmas.{root_built}
use Rattle.collate_compile.proofs.layers.write_root.Goals as goal

pub write_ranges-requires-clause-room : goal.write_ranges-requires-clause-room
write_ranges-requires-clause-room c =
    let few = c.in_ok-characters.ensures.few.elements in
    room_at_first c.in_ok-layer.layer.pools (count_by is_range (map said c.args.noted.now.lines.now)) 0
    c.in_ok-layer.ensures.pools (omega (arith, few)) (omega arith)

pub write_characters-requires-clause-room : goal.write_characters-requires-clause-room
write_characters-requires-clause-room c =
    let lines = map said c.args.noted.now.lines.now in
    let few = subst (λ (cs : List ℕ). AreFew lines cs) (sym c.as_slice.ensures.value) c.in_ok-characters.ensures.few in
    let f : ℕ → ℕ = λ q. 1 + elements_begun lines q in
    let cs = c.as_slice.result.now in
    room_left (sum_by f cs + count_by is_range lines) (sum_by (texts_begun lines) cs) (count_by is_range lines) 0
    (sum_by f cs) (sum_by (texts_begun lines) cs) c.in_ok-layer.layer.pools c.write_ranges.new.layer.pools
    (room_at_first c.in_ok-layer.layer.pools _ _ c.in_ok-layer.ensures.pools few.elements few.texts)
    c.in_ok-write_ranges.ensures.size.pools (omega arith) (omega arith)

pub build-requires-clause-wide : goal.build-requires-clause-wide
build-requires-clause-wide c =
    let lines = map said c.args.noted.now.lines.now in
    let few = subst (λ (cs : List ℕ). AreFew lines cs) (sym c.as_slice.ensures.value) c.in_ok-characters.ensures.few in
    let ranged = c.in_ok-write_ranges.ensures.size in
    built_wide lines c.requires.accepted c.as_slice.result.now few _ _ c.write_ranges.new.layer
    c.write_characters.new.layer (ranged.same.count ∙ c.in_ok-layer.ensures.count)
    (ranged_few _ lines c.in_ok-layer.layer c.write_ranges.new.layer c.in_ok-layer.ensures.blocks ranged)
    c.in_ok-write_characters.ensures.size

pub build-requires-clause-narrow : goal.build-requires-clause-narrow
build-requires-clause-narrow c =
    let lines = map said c.args.noted.now.lines.now in
    let few = subst (λ (cs : List ℕ). AreFew lines cs) (sym c.as_slice.ensures.value) c.in_ok-characters.ensures.few in
    let ranged = c.in_ok-write_ranges.ensures.size in
    built_narrow lines c.requires.accepted c.as_slice.result.now few _ _ c.write_ranges.new.layer
    c.write_characters.new.layer (ranged.same.count ∙ c.in_ok-layer.ensures.count)
    (ranged_few _ lines c.in_ok-layer.layer c.write_ranges.new.layer c.in_ok-layer.ensures.blocks ranged)
    c.in_ok-write_characters.ensures.size

pub returns-clause-root : goal.returns-clause-root
returns-clause-root c =
    let lines = map said c.args.noted.now.lines.now in
    let layer = c.write_characters.new.layer in
    let written = c.in_ok-write_characters.ensures.written root
    (ranged_alone lines c.write_ranges.new.layer c.in_ok-write_ranges.ensures.written) in
    root_built lines c.in_ok-characters.characters.items layer c.in_ok-root.root c.in_ok-root.ensures.cells
    c.in_ok-root.ensures.words c.in_ok-root.ensures.pools
    c.in_ok-characters.ensures.characters
    (subst (λ (cs : List ℕ). AreWritten root lines cs layer) c.as_slice.ensures.value written)

pub returns-clause-trie_type : goal.returns-clause-trie_type
returns-clause-trie_type c =
    c.in_ok-root.ensures.trie_type ∙ c.in_ok-write_characters.ensures.size.same.trie_type
    ∙ c.in_ok-write_ranges.ensures.size.same.trie_type ∙ c.in_ok-layer.ensures.trie_type
