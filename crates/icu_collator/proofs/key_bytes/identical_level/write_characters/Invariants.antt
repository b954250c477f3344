use Rattle.std.proofs.Common.{◌≡◌, ◌<◌, ◌++◌, drop}
use Rattle.icu_collator.specs.KeyBytes.{codes_from, character_code, character_level, last_character}
use Rattle.icu_collator.proofs.key_bytes.identical_level.write_characters.Given as goal

abbrev pub invariant-loop-c : goal.invariant-loop-c
invariant-loop-c l = record {
  bounded : l.last < 0x110000;
  level : l.key.items ++ codes_from character_code last_character l.last (drop l.c-index l.list) ≡ l.initial.key.items ++ character_level l.list;
}
