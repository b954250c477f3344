use Rattle.icu_collator.proofs.common_front.passage.index_among.Goals as goal

pub returns : goal.returns
returns g c = c.place_to_begin.ensures (g.T.Characters.characters c.args.text) c.chars.ensures.spelled
