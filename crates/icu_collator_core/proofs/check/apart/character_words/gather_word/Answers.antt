use Rattle.icu_collator_core.proofs.apart.GrowthLemmas.{grown_by_one}
use Rattle.icu_collator_core.proofs.check.apart.character_words.gather_word.Goals as goal

pub returns : goal.returns
returns c = grown_by_one c.args.word c.args.words.now.items c.push.new.self.items c.in_ok-push.ensures.items
