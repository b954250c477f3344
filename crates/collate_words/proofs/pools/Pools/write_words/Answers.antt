use Rattle.std.proofs.Common.{length, ap, arith}
use Rattle.icu_collator_core.specs.Pools.{Pools}
use Rattle.collate_words.proofs.owned.OwnWordLemmas.{words_own}
use Rattle.collate_words.proofs.pools.Pools.write_words.Goals as goal

pub returns-clause-says : goal.returns-clause-says
returns-clause-says c =
    words_own _ c.self.inside.ce32s.items c.args.elements.now c.naming.result c.requires.fit c.requires.some
    (omega (arith, ap (λ (pools : Pools). length pools.ce32s) c.self.view_is)) c.requires.short c.in_ok-append_words.ensures.words (omega arith)
