use Rattle.std.proofs.Common.{ℕ, ◌+◌, ◌≤◌, List, length, map, take, take_all, subst, arith}
use Rattle.std.specs.Prelude.{sum_by}
use Rattle.collate_lines.specs.Record.{said}
use Rattle.collate_compile.specs.Beginnings.{elements_begun, texts_begun}
use Rattle.collate_compile.specs.LayerBuilds.{AreWritten, KeepsOthers}
use Rattle.collate_compile.proofs.building.BuildingGrowthLemmas.{kept_more, kept_none, next_taken, next_within, room_left}
use Rattle.collate_compile.proofs.building.LayerLemmas.{characters_more}
use Rattle.collate_compile.proofs.layers.write_characters.Goals as goal

pub loop-character-init : goal.loop-character-init
loop-character-init c = record { written = λ which none. none; size = kept_none c.args.layer.now }

pub write_character-requires-clause-room : goal.write_character-requires-clause-room
write_character-requires-clause-room c =
    let cs = c.args.characters.now in
    let i = c.loop-character.character-index in
    let f : ℕ → ℕ = λ q. 1 + elements_begun (map said c.args.noted.now.lines.now) q in
    let g : ℕ → ℕ = texts_begun (map said c.args.noted.now.lines.now) in
    room_left (sum_by f cs) (sum_by g cs) (sum_by f (take i cs)) (sum_by g (take i cs)) (f c.character-item.result)
    (g c.character-item.result) c.args.layer.now.pools
    c.loop-character.layer.pools c.requires.room c.loop-character.invariant.size.pools
    (next_within f cs i c.character-item.result c.loop-character-test.true c.character-item.is)
    (next_within g cs i c.character-item.result c.loop-character-test.true c.character-item.is)

pub loop-character-preserved : goal.loop-character-preserved
loop-character-preserved c =
    let lines = map said c.args.noted.now.lines.now in
    let cs = c.args.characters.now in
    let i = c.loop-character.character-index in
    let x = c.character-item.result in
    let f : ℕ → ℕ = λ q. 1 + elements_begun (map said c.args.noted.now.lines.now) q in
    let g : ℕ → ℕ = texts_begun (map said c.args.noted.now.lines.now) in
    let old = c.loop-character.layer in
    let new = c.write_character.new.layer in
    let done = c.in_ok-write_character.ensures.written in
    record {
      written = λ which none. subst (λ (ds : List ℕ). AreWritten which (map said c.args.noted.now.lines.now) ds
          c.write_character.new.layer) (next_taken f cs i x c.loop-character-test.true c.character-item.is)
          (characters_more c.words_say_the_same_in_longer_lists.ensures which lines (take i cs) old new x done.0
          done.1 (c.loop-character.invariant.written which none) done.2);
      size = subst (λ (ds : List ℕ). KeepsOthers (sum_by f ds) (sum_by g ds) ds c.args.layer.now new)
          (next_taken f cs i x c.loop-character-test.true c.character-item.is)
          (kept_more f g (take i cs) x c.args.layer.now old new done.0 c.loop-character.invariant.size done.2
          c.in_ok-write_character.ensures.size);
    }

pub returns-clause-written : goal.returns-clause-written
returns-clause-written c = λ which none.
    let cs = c.args.characters.now in
    let past : length cs ≤ c.loop-character.character-index = omega arith in
    subst (λ (ds : List ℕ). AreWritten which (map said c.args.noted.now.lines.now) ds c.loop-character.layer)
    (take_all c.loop-character.character-index cs past) (c.loop-character.invariant.written which none)

pub returns-clause-size : goal.returns-clause-size
returns-clause-size c =
    let cs = c.args.characters.now in
    let i = c.loop-character.character-index in
    let past : length cs ≤ i = omega arith in
    let f : ℕ → ℕ = λ q. 1 + elements_begun (map said c.args.noted.now.lines.now) q in
    let g : ℕ → ℕ = texts_begun (map said c.args.noted.now.lines.now) in
    subst (λ (ds : List ℕ). KeepsOthers (sum_by f ds) (sum_by g ds) ds c.args.layer.now c.loop-character.layer)
    (take_all i cs past) c.loop-character.invariant.size
