use Rattle.std.proofs.Common.{◌≤◌, arith}
use Rattle.collate_compile.proofs.building.MapLemmas.{made_from}
use Rattle.collate_compile.proofs.layer_builder.LayerBuilder.write_character.Goals as goal

pub returns-clause-word : goal.returns-clause-word
returns-clause-word c =
    let inside : c.from.result ≤ 0x10_FFFF = omega (arith, c.from.ensures) in
    record {
      word = c.in_ok-word.word;
      says = c.in_ok-word.ensures.says;
      written = rw (← c.from.ensures)
          (made_from _ _ _ _ c.set_value.result c.set_value.ensures.written c.set_value.ensures.refused
          (λ e h. omega (arith, h.1)));
      grows = c.write_entry.ensures.grows;
    }
