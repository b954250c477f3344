use Rattle.std.proofs.Common.{ap, map, refl, ◌∙◌}
use Rattle.collate_lines.specs.Record.{said}
use Rattle.collate_rules.specs.Meaning.{place_among}
use Rattle.collate_compile.proofs.setting.SettingReorderingLemmas.{reordering_is}
use Rattle.collate_compile.proofs.reordering.reordering.Goals as goal

pub returns : goal.returns
returns c =
    reordering_is (map said c.args.lines.now) _ c.in_ok-bytes.bytes.items c.requires
    (c.in_ok-reorder_table.ensures ∙ c.as_slice.ensures.value) c.in_ok-bytes.ensures.count
    (λ lead h. c.in_ok-bytes.ensures.places lead h ∙ ap (λ ps. place_among ps lead) c.reordered-pairs.ensures) refl
