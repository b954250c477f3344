use Rattle.std.proofs.Common.{length, ap, arith}
use Rattle.icu_collator_core.specs.Pools.{Pools}
use Rattle.collate_words.proofs.owned.OwnWordLemmas.{bits_own}
use Rattle.collate_words.proofs.pools.Pools.write_bits.Goals as goal

pub returns-clause-says : goal.returns-clause-says
returns-clause-says c =
    bits_own _ c.self.inside.ces.items c.args.elements.now c.naming.result c.requires.fit c.requires.some
    (omega (arith, ap (λ (pools : Pools). length pools.ces) c.self.view_is)) c.in_ok-append_bits.ensures.bits (omega arith)
