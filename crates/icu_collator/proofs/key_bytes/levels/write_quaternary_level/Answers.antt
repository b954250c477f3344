use Rattle.std.proofs.Common.{◌∙◌, ap, sym}
use Rattle.icu_collator_types.specs.Options.{is_shifted}
use Rattle.icu_collator.specs.KeyBytes.{quaternary_level}
use Rattle.icu_collator.specs.KeyCodes.{quaternaries_by_rank, rank_limit}
use Rattle.icu_collator.proofs.key_writing.CodesWrittenLemmas.{level_written}
use Rattle.icu_collator.proofs.key_writing.PlaceRankLemmas.{quaternary_level_ranked}
use Rattle.icu_collator.proofs.key_bytes.levels.write_quaternary_level.Goals as goal

pub write_quaternaries-requires : goal.write_quaternaries-requires
unfolding rank_limit
write_quaternaries-requires c = c.requires

pub returns : goal.returns
returns c = λ places are small.
    let options = c.args.options.now in
    level_written c.args.key.now.items (quaternaries_by_rank c.is_shifted.result c.args.ranks.now) (quaternary_level options places)
    c.push.new.self.items c.write_quaternaries.new.key.items c.push-2.new.self.items
    c.in_ok-push.ensures.ok c.in_ok-write_quaternaries.ensures c.in_ok-push-2.ensures.ok
    (ap (λ b. quaternaries_by_rank b c.args.ranks.now) c.is_shifted.ensures ∙ ap (quaternaries_by_rank (is_shifted options.alternate_handling)) (sym are)
    ∙ quaternary_level_ranked options places small)
