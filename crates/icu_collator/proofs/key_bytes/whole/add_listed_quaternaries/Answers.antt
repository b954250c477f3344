use Rattle.std.proofs.Common.{◌∙◌, filter_map, sym}
use Rattle.icu_collator.specs.Collators.{source_collation}
use Rattle.icu_collator.specs.LevelLists.{counted_list}
use Rattle.icu_collator.specs.Levels.{quaternary_at}
use Rattle.icu_collator.proofs.key_bytes.whole.add_listed_quaternaries.Goals as goal

pub returns : goal.returns
returns c =
    c.in_ok-write_quaternary_level.ensures (filter_map (quaternary_at (source_collation c.args.checked.now)) (counted_list c.args.variable_end c.args.elements.now))
    (sym (c.deref.ensures ∙ c.in_ok-ranks.ensures.ranks)) c.in_ok-ranks.ensures.shifted
