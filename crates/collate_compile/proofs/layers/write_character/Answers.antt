use Rattle.collate_compile.proofs.building.BuildingGrowthLemmas.{grown_within, room_within}
use Rattle.collate_compile.proofs.layers.write_character.Goals as goal

pub write_character-requires-clause-room : goal.write_character-requires-clause-room
write_character-requires-clause-room c =
    room_within _ _ _ _ c.args.layer.now.pools c.requires.room c.in_ok-entry.ensures.few.elements
    c.in_ok-entry.ensures.few.texts

pub returns-clause-size : goal.returns-clause-size
returns-clause-size c =
    grown_within _ _ _ _ _ _ c.in_ok-write_character.ensures.size c.in_ok-entry.ensures.few.elements
    c.in_ok-entry.ensures.few.texts
