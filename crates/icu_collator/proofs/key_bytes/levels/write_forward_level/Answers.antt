use Rattle.std.proofs.Common.{◌∙◌, ap, filter_map, refl, rules}
use Rattle.std.specs.Prelude.{option_map}
use Rattle.icu_collator.specs.KeyBytes.{secondary_code, with_runs}
use Rattle.icu_collator.specs.KeyCodes.{code_of, rank_limit}
use Rattle.icu_collator.specs.LevelLists.{counted_list}
use Rattle.icu_collator.specs.Levels.{secondary_at}
use Rattle.icu_collator.specs.Order.{secondary_rank}
use Rattle.icu_collator.specs.declared.key_bytes.run_level.RunLevel.TheVariants.{Secondaries}
use Rattle.icu_collator.proofs.key_writing.CodesWrittenLemmas.{level_written}
use Rattle.icu_collator.proofs.key_writing.PlaceRankLemmas.{secondaries_ranked}
use Rattle.icu_collator.proofs.lists.CollatorListLemmas.{ranks_by}
use Rattle.icu_collator.proofs.key_bytes.levels.write_forward_level.Goals as goal

pub write_given_runs-requires-clause-small : goal.write_given_runs-requires-clause-small
unfolding rank_limit
write_given_runs-requires-clause-small c = λ e w h sound. h.1.0

pub returns : goal.returns
unfolding code_of
returns c =
    let es = counted_list c.args.variable_end c.args.elements.now in
    let places = filter_map secondary_at es in
    let ranks = filter_map (λ e. option_map secondary_rank (secondary_at e)) es in
    level_written c.args.key.now.items (with_runs (code_of Secondaries) ranks) (with_runs secondary_code places)
    c.push.new.self.items c.write_given_runs.new.key.items c.push-2.new.self.items
    c.in_ok-push.ensures.ok (c.in_ok-write_given_runs.ensures (λ e. option_map secondary_rank (secondary_at e)) (λ e w h. search rules) (λ e h. h.1 refl)) c.in_ok-push-2.ensures.ok
    (ap (with_runs (code_of Secondaries)) (ranks_by secondary_rank secondary_at es) ∙ secondaries_ranked places)
