use Rattle.std.proofs.Common.{◌∙◌, ap, filter_map, sym, true}
use Rattle.icu_collator.specs.Collators.{source_collation}
use Rattle.icu_collator.specs.KeyBytes.{quaternary_level}
use Rattle.icu_collator.specs.KeyCodes.{quaternaries_by_rank}
use Rattle.icu_collator.specs.LevelLists.{counted_list, quaternary_ranks}
use Rattle.icu_collator.specs.Levels.{quaternary_at}
use Rattle.icu_collator.proofs.key_writing.CodesWrittenLemmas.{level_written}
use Rattle.icu_collator.proofs.key_writing.PlaceRankLemmas.{quaternary_level_ranked}
use Rattle.icu_collator.proofs.key_bytes.levels.write_shifted_quaternaries.Goals as goal

pub returns : goal.returns
returns c =
    let options = c.args.options.now in
    let collation = source_collation c.args.checked.now in
    let list = counted_list c.args.variable_end c.args.elements.now in
    let ranks = quaternary_ranks collation list in
    level_written c.args.key.now.items (quaternaries_by_rank true ranks) (quaternary_level options (filter_map (quaternary_at collation) list))
    c.push.new.self.items c.write_given_quaternaries.new.key.items c.push-2.new.self.items
    c.in_ok-push.ensures.ok c.in_ok-write_given_quaternaries.ensures.written c.in_ok-push-2.ensures.ok
    (ap (λ b. quaternaries_by_rank b ranks) (sym c.requires) ∙ quaternary_level_ranked options (filter_map (quaternary_at collation) list)
    c.in_ok-write_given_quaternaries.ensures.small)
