use Rattle.std.proofs.Common.{◌≡◌, ◌≤◌, ◌<◌, ⊎_elim, arith, ◌∙◌}
use Rattle.std.specs.Range.{range_inclusive_start, range_inclusive_end}
use Rattle.collate_compile.proofs.building.MapLemmas.{made_from, written_within}
use Rattle.collate_compile.proofs.layer_builder.LayerBuilder.write_range.Goals as goal

pub returns-clause-word : goal.returns-clause-word
returns-clause-word c =
    let range = c.new-range.result in
    let first : range.start ≡ c.args.first = c.new-range.ensures.start ∙ c.from.ensures in
    let last : range.end ≡ c.args.last = c.new-range.ensures.end ∙ c.from-2.ensures in
    let starts : range_inclusive_start range ≤ 0x10_FFFF = omega arith in
    let ends : range_inclusive_end range ≤ 0x10_FFFF = omega arith in
    record {
      word = c.in_ok-word.word;
      says = c.in_ok-word.ensures.says;
      written = written_within _ _ range _ _ _ first last c.new-range.ensures.exhausted
          (made_from _ _ _ _ c.set_range_value.result c.set_range_value.ensures.written
          c.set_range_value.ensures.refused
          (λ e h. ⊎_elim (λ (p : 0x10_FFFF < range_inclusive_start range). omega arith)
          (λ (q : 0x10_FFFF < range_inclusive_end range). omega arith) h.1));
      grows = c.write_entry.ensures.grows;
    }
