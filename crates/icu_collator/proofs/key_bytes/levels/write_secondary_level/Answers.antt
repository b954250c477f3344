use Rattle.std.proofs.Common.{◌∙◌, ap, arith, sym}
use Rattle.icu_collator.specs.KeyBytes.{secondary_code, with_runs}
use Rattle.icu_collator.specs.KeyCodes.{code_of, rank_limit}
use Rattle.icu_collator.specs.declared.key_bytes.run_level.RunLevel.TheVariants.{Secondaries}
use Rattle.icu_collator.proofs.key_writing.CodesWrittenLemmas.{level_written}
use Rattle.icu_collator.proofs.key_writing.PlaceRankLemmas.{secondaries_ranked}
use Rattle.icu_collator.proofs.key_bytes.levels.write_secondary_level.Goals as goal

pub write_runs-requires : goal.write_runs-requires
unfolding rank_limit
write_runs-requires c = λ k d inside. let most = c.requires k d inside in omega (arith, most)

pub returns : goal.returns
returns c = λ places are.
    level_written c.args.key.now.items (with_runs (code_of Secondaries) c.args.ranks.now) (with_runs secondary_code places)
    c.push.new.self.items c.write_runs.new.key.items c.push-2.new.self.items
    c.in_ok-push.ensures.ok c.in_ok-write_runs.ensures c.in_ok-push-2.ensures.ok
    (ap (with_runs (code_of Secondaries)) (sym are) ∙ secondaries_ranked places)
