use Rattle.icu_collator_core.proofs.apart.GrowthLemmas.{grown_by_one}
use Rattle.icu_collator_core.proofs.unsafe_characters.context_texts.gather_character.Goals as goal

pub returns : goal.returns
returns c = grown_by_one c.args.c c.args.characters.now.items c.push.new.self.items c.in_ok-push.ensures.items
